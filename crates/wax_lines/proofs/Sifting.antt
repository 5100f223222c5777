-- What the sieve of a filter of lines holds after each step.
use Rattle.std.proofs.Common.{true≢false, ◌≡◌, ◌≢◌, ℕ, ◌+◌, List, [], ◌∷◌, ◌++◌, refl, sym, ◌∙◌, ap, subst}
use Rattle.std.proofs.Common.{append_assoc, append-nil, Result, Ok, Err, OnErr, IfErr, IsErrAnd, length, true}
use Rattle.std.proofs.Common.{false, ◌==◌, eqb-true, IsUtf8, chars, arith}
use Rattle.std.proofs.{lemmas.List.Elements.{All-nil, All-append, All-cons}, lemmas.List.nil_from_length}
use Rattle.std.specs.Io.Iter.{u64_saturate}
use Rattle.wax_lines.specs.Lines.{lines, whole_lines, Gives, text, Filters}
use Rattle.wax_lines.specs.inner.Sifted.{HasNoNewline, CountsMore, lines_text, Sifted}
use Rattle.wax_lines.specs.{declared.lines.sieve.Sieve.Sieve, inner.Progress.{TakesIn, TakesLast}}
use Rattle.wax_lines.proofs.Cuts.{lines_joined, lines_open, whole_lines_joined, lines_text-append}
use Rattle.wax_lines.proofs.Cuts.{Filters-more}

module _ (Writes : List ℕ → List ℕ → Type 0) (taken written carry waiting : List ℕ) (counted : ℕ)
    (h : Sifted Writes taken written carry waiting counted) where
  -- more of a line
  sifted_more : (more : List ℕ) → HasNoNewline more
      → Sifted Writes (taken ++ more) written (carry ++ more) waiting counted
  sifted_more more k = record {
    whole = h.whole;
    bad = h.bad;
    splits = ap (λ z. z ++ more) h.splits ∙ append_assoc (lines_text h.whole) carry more;
    are_lines = h.are_lines;
    is_open = All-append (λ b. b ≢ 10) carry more h.is_open k;
    filters = h.filters;
    counts = h.counts;
  }

  -- the end of a line, and what the line gives
  sifted_line : (end out : List ℕ) (m counted' : ℕ) → HasNoNewline end → Gives Writes (carry ++ end) out m
      → CountsMore counted counted' m
      → Sifted Writes (taken ++ (end ++ 10 ∷ [])) written [] (waiting ++ out) counted'
  sifted_line end out m counted' k g more = record {
    whole = h.whole ++ (carry ++ end) ∷ [];
    bad = h.bad + m;
    splits = ap (λ z. z ++ (end ++ 10 ∷ [])) h.splits
        ∙ rw lines_text-append (simp (append_assoc, append-nil));
    are_lines = All-append HasNoNewline h.whole ((carry ++ end) ∷ []) h.are_lines
        (All-cons HasNoNewline (carry ++ end) [] (All-append (λ b. b ≢ 10) carry end h.is_open k)
        (All-nil HasNoNewline));
    is_open = All-nil (λ b. b ≢ 10);
    filters = subst (λ z. Filters Writes (h.whole ++ (carry ++ end) ∷ []) z (h.bad + m))
        (append_assoc written waiting out)
        (Filters-more Writes h.whole (carry ++ end) (written ++ waiting) out h.bad m h.filters g);
    counts = more h.bad h.counts;
  }

  -- what waited was written
  pub sifted_written : Sifted Writes taken (written ++ waiting) carry [] counted
  sifted_written = record {
    whole = h.whole;
    bad = h.bad;
    splits = h.splits;
    are_lines = h.are_lines;
    is_open = h.is_open;
    filters = subst (λ z. Filters Writes h.whole z h.bad) (sym (append-nil (written ++ waiting))) h.filters;
    counts = h.counts;
  }

  -- the whole lines of what was taken
  pub sifted_whole : Filters Writes (whole_lines taken) (written ++ waiting) h.bad
  sifted_whole = subst (λ z. Filters Writes z (written ++ waiting) h.bad)
      (sym (ap whole_lines h.splits ∙ whole_lines_joined h.whole carry h.are_lines h.is_open)) h.filters

-- the start
pub sifted_nothing : (Writes : List ℕ → List ℕ → Type 0) → Sifted Writes [] [] [] [] 0
sifted_nothing Writes = record {
  whole = [];
  bad = 0;
  splits = refl;
  are_lines = All-nil HasNoNewline;
  is_open = All-nil (λ b. b ≢ 10);
  filters = (refl, refl);
  counts = refl;
}

module _ (Writes : List ℕ → List ℕ → Type 0) where
  pub TakesIn-then : (old mid new : Sieve) (x y : List ℕ) → TakesIn Writes x old mid
      → TakesIn Writes y mid new → TakesIn Writes (x ++ y) old new
  TakesIn-then old mid new x y f g taken written h =
      rw (← append_assoc) (g (taken ++ x) written (f taken written h))

  pub TakesIn-more : (old new : Sieve) (more : List ℕ) → HasNoNewline more
      → new.carry.items ≡ old.carry.items ++ more
      → new.kept.bytes.items ≡ old.kept.bytes.items → new.kept.not_text ≡ old.kept.not_text
      → TakesIn Writes more old new
  TakesIn-more old new more k e f g taken written h =
      rw (e, f, g)
      (sifted_more Writes taken written old.carry.items old.kept.bytes.items old.kept.not_text h more k)

  pub TakesIn-none : (old new : Sieve) → new.carry.items ≡ old.carry.items
      → new.kept.bytes.items ≡ old.kept.bytes.items → new.kept.not_text ≡ old.kept.not_text
      → TakesIn Writes [] old new
  TakesIn-none old new e f g =
      TakesIn-more old new [] (All-nil (λ b. b ≢ 10)) (e ∙ sym (append-nil old.carry.items)) f g

  pub TakesIn-line : (old new : Sieve) (end out : List ℕ) (m : ℕ) → HasNoNewline end
      → Gives Writes (old.carry.items ++ end) out m
      → new.carry.items ≡ [] → new.kept.bytes.items ≡ old.kept.bytes.items ++ out
      → CountsMore old.kept.not_text new.kept.not_text m → TakesIn Writes (end ++ 10 ∷ []) old new
  TakesIn-line old new end out m k gives e f g taken written h =
      rw (e, f) (sifted_line Writes taken written old.carry.items old.kept.bytes.items old.kept.not_text h end
      out m new.kept.not_text k gives g)

  -- a line that is text, at its beginning
  pub TakesIn-text : (old new : Sieve) (line out : List ℕ) → old.carry.items ≡ [] → HasNoNewline line
      → IsUtf8 line → Writes (chars line) out
      → new.carry.items ≡ [] → new.kept.bytes.items ≡ old.kept.bytes.items ++ out
      → new.kept.not_text ≡ old.kept.not_text
      → TakesIn Writes (line ++ 10 ∷ []) old new
  TakesIn-text old new line out empty k utf8 writes e f g =
      TakesIn-line old new line out 0 k
      (subst (λ z. Gives Writes (z ++ line) out 0) (sym empty) (text utf8 writes refl)) e f
      (λ n c. g ∙ c ∙ ap u64_saturate (omega arith))

  -- nothing more
  pub TakesIn-still : (old mid new : Sieve) (x : List ℕ) → TakesIn Writes x old mid
      → TakesIn Writes [] mid new → TakesIn Writes x old new
  TakesIn-still old mid new x f g =
      subst (λ z. TakesIn Writes z old new) (append-nil x) (TakesIn-then old mid new x [] f g)

  -- no rest
  pub TakesLast-none : (old new : Sieve) → old.carry.items ≡ []
      → new.kept.bytes.items ≡ old.kept.bytes.items → new.kept.not_text ≡ old.kept.not_text
      → TakesLast Writes old new
  TakesLast-none old new e f g taken written h = record {
    bad = h.bad;
    filters = rw f (subst (λ z. Filters Writes z (written ++ old.kept.bytes.items) h.bad)
        (sym (ap lines h.splits ∙ ap (λ z. lines (lines_text h.whole ++ z)) e
        ∙ lines_joined h.whole [] h.are_lines ∙ append-nil h.whole)) h.filters);
    counts = g ∙ h.counts;
  }

  -- a rest
  pub TakesLast-line : (old new : Sieve) (out : List ℕ) (m : ℕ) → old.carry.items ≢ []
      → Gives Writes old.carry.items out m
      → new.kept.bytes.items ≡ old.kept.bytes.items ++ out
      → CountsMore old.kept.not_text new.kept.not_text m → TakesLast Writes old new
  TakesLast-line old new out m some gives f g taken written h = record {
    bad = h.bad + m;
    filters = rw f (subst (λ z. Filters Writes z (written ++ (old.kept.bytes.items ++ out)) (h.bad + m))
        (sym (ap lines h.splits ∙ lines_joined h.whole old.carry.items h.are_lines
        ∙ ap (λ z. h.whole ++ z) (one_line old.carry.items some h.is_open)))
        (subst (λ z. Filters Writes (h.whole ++ old.carry.items ∷ []) z (h.bad + m))
        (append_assoc written old.kept.bytes.items out)
        (Filters-more Writes h.whole old.carry.items (written ++ old.kept.bytes.items) out h.bad
        m h.filters gives)));
    counts = g h.bad h.counts;
  }
    where
      one_line : (bs : List ℕ) → bs ≢ [] → HasNoNewline bs → lines bs ≡ bs ∷ []
      one_line [] n k = absurd (n refl)
      one_line (b ∷ bs) n k = lines_open b bs k

-- what holds anyway holds at an error
pub on_err : {T E P : Type 0} (r : Result T E) → P → OnErr r P
on_err (Ok x) h = tt
on_err (Err e) h = h

-- what the test for emptiness tells
pub empty_items : (n : ℕ) (xs : List ℕ) → n ≡ length xs → true ≡ (n == 0) → xs ≡ []
empty_items n xs e t = nil_from_length xs (sym e ∙ eqb-true n 0 (sym t))

pub filled_items : (n : ℕ) (xs : List ℕ) → n ≡ length xs → false ≡ (n == 0) → xs ≢ []
filled_items n xs e t nil = absurd (true≢false (sym (ap (λ k. k == 0) (e ∙ ap length nil)) ∙ sym t))

-- what the exit of a `?` returns
pub if_err : {T E : Type 0} {Q : E → Type 0} (P : E → Type 0) (r : Result T E) → IsErrAnd r Q
    → ((e : E) → Q e → P e) → IfErr r P
if_err P (Ok x) h f = tt
if_err P (Err e) h f = f e h

-- the error that the exit of a `?` passes on
pub same_err : {T E : Type 0} (r : Result T E) (x e : E) → IsErrAnd r (λ y. y ≡ x) → r ≡ Err e → x ≡ e
same_err (Ok z) x e h k = absurd h
same_err (Err y) x e h k = cc
