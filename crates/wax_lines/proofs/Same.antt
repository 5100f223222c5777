-- Filters that may write the same for each text, for two relations that say so.
use Rattle.std.proofs.Common.{◌≡◌, ◌↔◌, ℕ, Bool, IsTrue, List, [], ◌∷◌, Option, chars, sym, subst}
use Rattle.wax_lines.specs.declared.lines.LinesError.{LinesError}
use Rattle.wax_lines.specs.declared.lines.LinesError.TheVariants.{Read, Write, Memory}
use Rattle.wax_lines.specs.Lines.{WritesMeant, meant, not_meant, WritesCaptures, captured, not_captured}
use Rattle.wax_lines.specs.Lines.{Gives, text, no_text, Filters, Filtered, StoppedReading, StoppedWriting}
use Rattle.wax_lines.specs.{Lines.{StoppedShort, Stopped}, inner.Matching.{IsMatchedBy, IsMatchedByBoth}}

module _ (V W : List ℕ → List ℕ → Type 0) (alike : (s out : List ℕ) → V s out → W s out) where
  gives_as : (line out : List ℕ) (bad : ℕ) → Gives V line out bad → Gives W line out bad
  gives_as line out bad (text u w e) = text u (alike (chars line) out w) e
  gives_as line out bad (no_text n e k) = no_text n e k

  filters_as : (each : List (List ℕ)) (out : List ℕ) (bad : ℕ) → Filters V each out bad
      → Filters W each out bad
  filters_as [] out bad h = h
  filters_as (line ∷ rest) out bad (x, y, m, n, first, more, e, k) =
      (x, y, m, n, gives_as line x m first, filters_as rest y n more, e, k)

  pub filtered_as : (left left' held held' : Option (List ℕ)) (answer : ℕ)
      → Filtered V left left' held held' answer → Filtered W left left' held held' answer
  filtered_as left left' held held' answer h = record {
    taken = h.taken;
    out = h.out;
    bad = h.bad;
    reads = h.reads;
    ends = h.ends;
    writes = h.writes;
    filters = filters_as _ h.out h.bad h.filters;
    answers = h.answers;
  }

  reading_as : (left left' held held' : Option (List ℕ))
      → StoppedReading V left left' held held' → StoppedReading W left left' held held'
  reading_as left left' held held' h = record {
    taken = h.taken;
    out = h.out;
    bad = h.bad;
    reads = h.reads;
    writes = h.writes;
    filters = filters_as _ h.out h.bad h.filters;
  }

  writing_as : (left left' held held' : Option (List ℕ))
      → StoppedWriting V left left' held held' → StoppedWriting W left left' held held'
  writing_as left left' held held' h = record {
    has_ended = h.has_ended;
    front = h.front;
    rest = h.rest;
    out = h.out;
    unwritten = h.unwritten;
    bad = h.bad;
    reads = h.reads;
    ends = h.ends;
    writes = h.writes;
    filters = filters_as _ _ h.bad h.filters;
  }

  pub short_as : (left left' held held' : Option (List ℕ)) (last_len : ℕ)
      → StoppedShort V left left' held held' last_len → StoppedShort W left left' held held' last_len
  short_as left left' held held' last_len h = record {
    front = h.front;
    rest = h.rest;
    out = h.out;
    bad = h.bad;
    reads = h.reads;
    of_one_read = h.of_one_read;
    writes = h.writes;
    filters = filters_as _ h.out h.bad h.filters;
  }

  pub stopped_as : (left left' held held' : Option (List ℕ)) (error : LinesError)
      → Stopped V left left' held held' error → Stopped W left left' held held' error
  stopped_as left left' held held' Read h = reading_as left left' held held' h
  stopped_as left left' held held' Write h = writing_as left left' held held' h
  stopped_as left left' held held' Memory h = short_as left left' held held' 65536 h

-- a matcher that decides what a program does, and a program that means what it decides
module _ (d e : List ℕ → Bool) (Means : List ℕ → Type 0) (same : d ≡ e)
    (decided : (s : List ℕ) → IsTrue (e s) ↔ Means s) where
  by_matcher : (s : List ℕ) → IsMatchedBy d s ↔ Means s
  by_matcher s = subst (λ z. IsTrue (z s) ↔ Means s) (sym same) (decided s)

  pub meant_as : (s out : List ℕ) → WritesMeant (IsMatchedBy d) s out → WritesMeant Means s out
  meant_as s out (meant h w) = meant ((by_matcher s).0 h) w
  meant_as s out (not_meant n w) = not_meant (λ h. n ((by_matcher s).1 h)) w

  pub captured_as : (Captured : List ℕ → List (List ℕ) → Type 0) (s out : List ℕ)
      → WritesCaptures (IsMatchedByBoth d Means) Captured s out → WritesCaptures Means Captured s out
  captured_as Captured s out (captured captures h c w) = captured captures h.1 c w
  captured_as Captured s out (not_captured n w) = not_captured (λ h. n ((by_matcher s).1 h, h)) w
