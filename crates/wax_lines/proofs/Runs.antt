-- How far a run of the filter has come after each step.
use Rattle.std.proofs.Common.{◌≡◌, ◌≤◌, ℕ, true, false, List, [], ◌∷◌, ◌++◌, length, Option, Result, Ok, Err}
use Rattle.std.proofs.Common.{OnOk, IfErr, refl, sym, ◌∙◌, ap, subst, append_assoc, append-nil, arith}
use Rattle.std.proofs.Common.{length-append}
use Rattle.std.proofs.KnownBytes.{Consumes-nil, Consumes-trans, Consumes-kept, Appends-nil, Appends-trans}
use Rattle.std.specs.Io.KnownBytes.{Consumes, Appends, IsAtEnd, Keeps}
use Rattle.wax_lines.specs.declared.lines.LinesError.{LinesError}
use Rattle.wax_lines.specs.declared.lines.LinesError.TheVariants.{Read, Write, Memory}
use Rattle.wax_lines.specs.declared.lines.sieve.Sieve.{Sieve}
use Rattle.wax_lines.specs.Lines.{lines, whole_lines, Filters, Filtered, StoppedReading, StoppedWriting}
use Rattle.wax_lines.specs.{Lines.{StoppedShort, Stopped}, Written.WritesPart}
use Rattle.wax_lines.specs.inner.Progress.{SieveSifted, TakesIn, TakesInPart, TakesLast, Came, CameShort}
use Rattle.wax_lines.specs.inner.Progress.{Finished, Halted}
use Rattle.wax_lines.proofs.Sifting.{sifted_nothing, sifted_written, sifted_whole}

module _ (Writes : List ℕ → List ℕ → Type 0) where
  -- nothing has happened yet
  pub came_nowhere : (left held : Option (List ℕ)) (s : Sieve) → s.carry.items ≡ [] → s.kept.bytes.items ≡ []
      → s.kept.not_text ≡ 0
      → SieveSifted Writes [] [] s
  came_nowhere left held s e f g = rw (e, f, g) (sifted_nothing Writes)

  -- a chunk was read and taken in
  pub Came-chunk : (left mid left' held held' : Option (List ℕ)) (old new : Sieve) (chunk : List ℕ)
      → Came Writes left mid held held' old → Consumes mid left' chunk → TakesIn Writes chunk old new
      → Came Writes left left' held held' new
  Came-chunk left mid left' held held' old new chunk h read takes = record {
    taken = h.taken ++ chunk;
    written = h.written;
    reads = Consumes-trans _ _ _ _ _ h.reads read;
    writes = h.writes;
    sifted = takes h.taken h.written h.sifted;
  }

  -- a chunk was read, and a beginning of it taken in
  pub Came-part : (left mid left' held held' : Option (List ℕ)) (last_len : ℕ) (old new : Sieve)
      (chunk : List ℕ) → length chunk ≤ last_len → length chunk ≤ 65536
      → Came Writes left mid held held' old → Consumes mid left' chunk → TakesInPart Writes chunk old new
      → CameShort Writes left left' held held' last_len new
  Came-part left mid left' held held' last_len old new chunk one few h read (front, rest, splits, takes) =
      record {
        front = h.taken ++ front;
        rest = rest;
        of_one_read = omega (arith, one, ap length splits, length-append front rest);
        of_one_chunk = omega (arith, few, ap length splits, length-append front rest);
        written = h.written;
        reads = subst (Consumes left left') (ap (λ z. h.taken ++ z) splits
            ∙ sym (append_assoc h.taken front rest)) (Consumes-trans _ _ _ _ _ h.reads read);
        writes = h.writes;
        sifted = takes h.taken h.written h.sifted;
      }

  -- a failed read
  pub Came-kept : (left mid left' held held' : Option (List ℕ)) (s : Sieve)
      → Came Writes left mid held held' s → Keeps mid left' → Came Writes left left' held held' s
  Came-kept left mid left' held held' s h kept = record {
    taken = h.taken;
    written = h.written;
    reads = Consumes-kept _ _ _ _ h.reads kept;
    writes = h.writes;
    sifted = h.sifted;
  }

  -- what waited was written
  pub Came-written : (left left' held mid held' : Option (List ℕ)) (old new : Sieve)
      → Came Writes left left' held mid old → Appends mid held' old.kept.bytes.items
      → new.carry ≡ old.carry → new.kept.bytes.items ≡ [] → new.kept.not_text ≡ old.kept.not_text
      → Came Writes left left' held held' new
  Came-written left left' held mid held' old new h written e f g = record {
    taken = h.taken;
    written = h.written ++ old.kept.bytes.items;
    reads = h.reads;
    writes = Appends-trans _ _ _ _ _ h.writes written;
    sifted = rw (e, f, g) (sifted_written Writes h.taken h.written old.carry.items old.kept.bytes.items
        old.kept.not_text h.sifted);
  }

  -- a beginning of what waited was written
  pub Short-writing : (left left' held mid held' : Option (List ℕ)) (last_len : ℕ) (s : Sieve)
      → CameShort Writes left left' held mid last_len s → WritesPart mid held' s.kept.bytes.items
      → StoppedWriting Writes left left' held held'
  Short-writing left left' held mid held' last_len s h w = record {
    has_ended = false;
    front = h.front;
    rest = h.rest;
    out = h.written ++ w.front;
    unwritten = w.rest;
    bad = h.sifted.bad;
    reads = h.reads;
    ends = λ e. (cc);
    writes = Appends-trans _ _ _ _ _ h.writes w.writes;
    filters = subst (λ z. Filters Writes (whole_lines h.front) z h.sifted.bad)
        (ap (λ z. h.written ++ z) w.splits ∙ sym (append_assoc h.written w.front w.rest))
        (sifted_whole Writes h.front h.written s.carry.items s.kept.bytes.items s.kept.not_text h.sifted);
  }

  -- all that was read was taken in, so a beginning was
  pub came_short : (left left' held held' : Option (List ℕ)) (last_len : ℕ) (s : Sieve)
      → Came Writes left left' held held' s → CameShort Writes left left' held held' last_len s
  came_short left left' held held' last_len s h = record {
    front = h.taken;
    rest = [];
    of_one_read = omega arith;
    of_one_chunk = omega arith;
    written = h.written;
    reads = subst (Consumes left left') (sym (append-nil h.taken)) h.reads;
    writes = h.writes;
    sifted = h.sifted;
  }

  -- the end of the input, with the rest taken in
  pub Came-finished : (left mid left' held held' : Option (List ℕ)) (old new : Sieve) (none : List ℕ)
      → Came Writes left mid held held' old → none ≡ [] → Consumes mid left' none → IsAtEnd left'
      → TakesLast Writes old new → Finished Writes left left' held held' new
  Came-finished left mid left' held held' old new none h nil read end takes = record {
    taken = h.taken;
    written = h.written;
    reads = subst (Consumes left left') (ap (λ z. h.taken ++ z) nil ∙ append-nil h.taken)
        (Consumes-trans _ _ _ _ _ h.reads read);
    ends = end;
    writes = h.writes;
    sifted = takes h.taken h.written h.sifted;
  }

  -- the last writing, after all was read
  pub Finished-written : (left left' held mid held' : Option (List ℕ)) (s : Sieve) (answer : ℕ)
      → Finished Writes left left' held mid s → Appends mid held' s.kept.bytes.items
      → answer ≡ s.kept.not_text → Filtered Writes left left' held held' answer
  Finished-written left left' held mid held' s answer h written e = record {
    taken = h.taken;
    out = h.written ++ s.kept.bytes.items;
    bad = h.sifted.bad;
    reads = h.reads;
    ends = h.ends;
    writes = Appends-trans _ _ _ _ _ h.writes written;
    filters = h.sifted.filters;
    answers = e ∙ h.sifted.counts;
  }

  pub Finished-writing : (left left' held mid held' : Option (List ℕ)) (s : Sieve)
      → Finished Writes left left' held mid s → WritesPart mid held' s.kept.bytes.items
      → StoppedWriting Writes left left' held held'
  Finished-writing left left' held mid held' s h w = record {
    has_ended = true;
    front = h.taken;
    rest = [];
    out = h.written ++ w.front;
    unwritten = w.rest;
    bad = h.sifted.bad;
    reads = subst (Consumes left left') (sym (append-nil h.taken)) h.reads;
    ends = λ _. (h.ends, refl);
    writes = Appends-trans _ _ _ _ _ h.writes w.writes;
    filters = subst (λ z. Filters Writes (lines h.taken) z h.sifted.bad)
        (ap (λ z. h.written ++ z) w.splits ∙ sym (append_assoc h.written w.front w.rest)) h.sifted.filters;
  }

  -- the last writing, after a failed read
  pub Came-stopped : (left left' held mid held' : Option (List ℕ)) (s : Sieve)
      → Came Writes left left' held mid s → Appends mid held' s.kept.bytes.items
      → StoppedReading Writes left left' held held'
  Came-stopped left left' held mid held' s h written = record {
    taken = h.taken;
    out = h.written ++ s.kept.bytes.items;
    bad = h.sifted.bad;
    reads = h.reads;
    writes = Appends-trans _ _ _ _ _ h.writes written;
    filters = sifted_whole Writes h.taken h.written s.carry.items s.kept.bytes.items s.kept.not_text h.sifted;
  }

  -- the last write, after a failed allocation, for each number of bytes that bounds the rest
  pub Short-stopped : (left left' held mid held' : Option (List ℕ)) (last_len most : ℕ) (s : Sieve)
      → (h : CameShort Writes left left' held mid last_len s) → length h.rest ≤ most
      → Appends mid held' s.kept.bytes.items → StoppedShort Writes left left' held held' most
  Short-stopped left left' held mid held' last_len most s h few written = record {
    front = h.front;
    rest = h.rest;
    of_one_read = few;
    out = h.written ++ s.kept.bytes.items;
    bad = h.sifted.bad;
    reads = h.reads;
    writes = Appends-trans _ _ _ _ _ h.writes written;
    filters = sifted_whole Writes h.front h.written s.carry.items s.kept.bytes.items s.kept.not_text h.sifted;
  }

  -- allocation failed before the first read
  pub stopped_at_once : (left held : Option (List ℕ)) (last_len : ℕ)
      → StoppedShort Writes left left held held last_len
  stopped_at_once left held last_len = record {
    front = [];
    rest = [];
    of_one_read = omega arith;
    out = [];
    bad = 0;
    reads = Consumes-nil left;
    writes = Appends-nil held;
    filters = (refl, refl);
  }

  -- after a failed write nothing more is written
  still_writing : (left left' held mid held' : Option (List ℕ)) (more : List ℕ)
      → StoppedWriting Writes left left' held mid → more ≡ [] → Appends mid held' more
      → StoppedWriting Writes left left' held held'
  still_writing left left' held mid held' more h nil w = record {
    has_ended = h.has_ended;
    front = h.front;
    rest = h.rest;
    out = h.out;
    unwritten = h.unwritten;
    bad = h.bad;
    reads = h.reads;
    ends = h.ends;
    writes = subst (Appends held held') (ap (λ z. h.out ++ z) nil ∙ append-nil h.out)
        (Appends-trans _ _ _ _ _ h.writes w);
    filters = h.filters;
  }

  -- the last writing, after an error
  pub Halted-written : (left left' held mid held' : Option (List ℕ)) (last_len : ℕ) (s : Sieve)
      (e : LinesError) → Halted Writes left left' held mid last_len s e → Appends mid held' s.kept.bytes.items
      → Stopped Writes left left' held held' e
  Halted-written left left' held mid held' last_len s Read h w = Came-stopped left left' held mid held' s h w
  Halted-written left left' held mid held' last_len s Write h w =
      still_writing left left' held mid held' s.kept.bytes.items h.0 h.1 w
  Halted-written left left' held mid held' last_len s Memory h w =
      Short-stopped left left' held mid held' last_len 65536 s h h.of_one_chunk w

  -- the last writing, after a failed allocation
  pub Halted-short : (left left' held mid held' : Option (List ℕ)) (last_len : ℕ) (s : Sieve) (e : LinesError)
      → Halted Writes left left' held mid last_len s e → e ≡ Memory → Appends mid held' s.kept.bytes.items
      → StoppedShort Writes left left' held held' last_len
  Halted-short left left' held mid held' last_len s Memory h e w =
      Short-stopped left left' held mid held' last_len last_len s h h.of_one_read w
  Halted-short left left' held mid held' last_len s Read h e w = let no : ⊥ = cc in absurd no
  Halted-short left left' held mid held' last_len s Write h e w = let no : ⊥ = cc in absurd no

  pub Halted-writing : (left left' held mid held' : Option (List ℕ)) (last_len : ℕ) (s : Sieve)
      (e : LinesError) → Halted Writes left left' held mid last_len s e
      → WritesPart mid held' s.kept.bytes.items → StoppedWriting Writes left left' held held'
  Halted-writing left left' held mid held' last_len s Read h w =
      Short-writing left left' held mid held' last_len s (came_short left left' held mid last_len s h) w
  Halted-writing left left' held mid held' last_len s Write h w =
      still_writing left left' held mid held' w.front h.0
      (front_nil w.front w.rest (sym w.splits ∙ h.1)) w.writes
    where
      front_nil : (xs ys : List ℕ) → xs ++ ys ≡ [] → xs ≡ []
      front_nil [] ys e = refl
      front_nil (x ∷ xs) ys e = cc
  Halted-writing left left' held mid held' last_len s Memory h w =
      Short-writing left left' held mid held' last_len s h w

  -- the last writing, whatever came before
  pub Ended-writing : (left left' held mid held' : Option (List ℕ)) (last_len : ℕ) (s : Sieve)
      (r : Result (Unit {0}) LinesError)
      → OnOk r (Finished Writes left left' held mid s)
      → IfErr r (Halted Writes left left' held mid last_len s)
      → WritesPart mid held' s.kept.bytes.items → StoppedWriting Writes left left' held held'
  Ended-writing left left' held mid held' last_len s (Ok x) h k w =
      Finished-writing left left' held mid held' s h w
  Ended-writing left left' held mid held' last_len s (Err e) h k w =
      Halted-writing left left' held mid held' last_len s e k w
