-- Texts one after another, and copies of a body.
use Rattle.std.proofs.Common.{◌++◌, ◌+◌, ◌-◌, ◌∙◌, ◌≡◌, ◌≤◌, Bool, List, None, Option, ℕ, [], ap, append-nil}
use Rattle.std.proofs.Common.{append_assoc, arith, refl, subst, suc, sym, true, zero}
use Rattle.wax_query.specs.Ranges.{AtMost}
use Rattle.wax_token.specs.Meaning.{Copies}

abbrev pub OneThen : (List ℕ → Type 0) → (List ℕ → Type 0) → List ℕ → Type 0
OneThen P Q s = (x : List ℕ) × (y : List ℕ) × (s ≡ x ++ y) × P x × Q y

-- k texts of P
abbrev pub Many : (List ℕ → Type 0) → ℕ → List ℕ → Type 0
Many P zero s = s ≡ []
Many P (suc k) s = OneThen P (Many P k) s

abbrev pub AnyNumber : (List ℕ → Type 0) → List ℕ → Type 0
AnyNumber P s = (k : ℕ) × Many P k s

-- as many as the bounds say
abbrev pub ManyWithin : (List ℕ → Type 0) → ℕ → Option ℕ → List ℕ → Type 0
ManyWithin P low high s = (k : ℕ) × (low ≤ k) × AtMost k high × Many P k s

pub many_add : (P : List ℕ → Type 0) (m n : ℕ) (x y : List ℕ) → Many P m x → Many P n y
    → Many P (m + n) (x ++ y)
many_add P zero n x y h k = let e : n ≡ 0 + n = omega arith in
    subst (λ z. Many P z (x ++ y)) e (subst (λ z. Many P n (z ++ y)) (sym h) k)
many_add P (suc m) n x y h k = let e : suc (m + n) ≡ suc m + n = omega arith in
    subst (λ z. Many P z (x ++ y)) e
    (h.0, h.1 ++ y, ap (λ z. z ++ y) h.2 ∙ append_assoc h.0 h.1 y, h.3, many_add P m n h.1 y h.4 k)

pub many_split : (P : List ℕ → Type 0) (m n : ℕ) (s : List ℕ) → Many P (m + n) s
    → OneThen (Many P m) (Many P n) s
many_split P zero n s h = let e : 0 + n ≡ n = omega arith in ([], s, refl, refl, subst (λ z. Many P z s) e h)
many_split P (suc m) n s h =
    let e : suc m + n ≡ suc (m + n) = omega arith in
    let g : Many P (suc (m + n)) s = subst (λ z. Many P z s) e h in
    let r : OneThen (Many P m) (Many P n) g.1 = many_split P m n g.1 g.4 in (
      g.0 ++ r.0,
      r.1,
      g.2 ∙ ap (λ z. g.0 ++ z) r.2 ∙ sym (append_assoc g.0 r.0 r.1),
      (g.0, r.0, refl, g.3, r.3),
      r.4,
    )

module _ (P : List ℕ → Type 0) where
  pub open_from : (low : ℕ) (s : List ℕ) → OneThen (Many P low) (AnyNumber P) s → ManyWithin P low None s
  open_from low s h = (
    low + h.4.0,
    omega arith,
    tt,
    subst (Many P (low + h.4.0)) (sym h.2) (many_add P low h.4.0 h.0 h.1 h.3 h.4.1),
  )

  pub open_to : (low : ℕ) (s : List ℕ) → ManyWithin P low None s → OneThen (Many P low) (AnyNumber P) s
  open_to low s h =
      let e : h.0 ≡ low + (h.0 - low) = omega (arith, h.1) in
      let r : OneThen (Many P low) (Many P (h.0 - low)) s =
      many_split P low (h.0 - low) s (subst (λ z. Many P z s) e h.3) in
      (r.0, r.1, r.2, r.3, (h.0 - low, r.4))

module _ (Body : Bool → Bool → List ℕ → Type 0) where
  abbrev pub Repeats : ℕ → Option ℕ → Bool → Bool → List ℕ → Type 0
  Repeats low high before after s = (k : ℕ) × (low ≤ k) × AtMost k high × Copies k Body before after s

  -- two copies more than the bounds say
  abbrev pub TwoMore : ℕ → Option ℕ → Bool → Bool → List ℕ → Type 0
  TwoMore low high before after s = (k : ℕ) × (low ≤ k) × AtMost k high
      × Copies (suc (suc k)) Body before after s

  -- the copies after the first: all but the last have others on both sides
  pub tail_to : (k : ℕ) (after : Bool) (s : List ℕ) → Copies (suc k) Body true after s
      → OneThen (Many (Body true true) k) (Body true after) s
  tail_to zero after s h = ([], s, refl, refl, h)
  tail_to (suc k) after s h =
      let r : OneThen (Many (Body true true) k) (Body true after) h.1 = tail_to k after h.1 h.4 in (
        h.0 ++ r.0,
        r.1,
        h.2 ∙ ap (λ z. h.0 ++ z) r.2 ∙ sym (append_assoc h.0 r.0 r.1),
        (h.0, r.0, refl, h.3, r.3),
        r.4,
      )

  pub tail_from : (k : ℕ) (after : Bool) (s : List ℕ) → OneThen (Many (Body true true) k) (Body true after) s
      → Copies (suc k) Body true after s
  tail_from zero after s h = subst (Body true after) (sym (h.2 ∙ ap (λ z. z ++ h.1) h.3)) h.4
  tail_from (suc k) after s h = (
    h.3.0,
    h.3.1 ++ h.1,
    h.2 ∙ ap (λ z. z ++ h.1) h.3.2 ∙ append_assoc h.3.0 h.3.1 h.1,
    h.3.3,
    tail_from k after (h.3.1 ++ h.1) (h.3.1, h.1, refl, h.3.4, h.4),
  )

  pub two_more_from : (low : ℕ) (high : Option ℕ) (before after : Bool) (s : List ℕ) →
      OneThen (Body before true) (OneThen (ManyWithin (Body true true) low high) (Body true after)) s
      → TwoMore low high before after s
  two_more_from low high before after s h = (
    h.4.3.0,
    h.4.3.1,
    h.4.3.2,
    (h.0, h.1, h.2, h.3, tail_from h.4.3.0 after h.1 (h.4.0, h.4.1, h.4.2, h.4.3.3, h.4.4)),
  )

  pub two_more_to : (low : ℕ) (high : Option ℕ) (before after : Bool) (s : List ℕ) →
      TwoMore low high before after s
      → OneThen (Body before true) (OneThen (ManyWithin (Body true true) low high) (Body true after)) s
  two_more_to low high before after s h =
      let r : OneThen (Many (Body true true) h.0) (Body true after) h.3.1 = tail_to h.0 after h.3.1 h.3.4 in
      (h.3.0, h.3.1, h.3.2, h.3.3, (r.0, r.1, r.2, (h.0, h.1, h.2, r.3), r.4))

-- ---- where what stands around a copy says nothing
pub copies_moved : (Body : Bool → Bool → List ℕ → Type 0)
    → ((b f b' f' : Bool) (s : List ℕ) → Body b f s → Body b' f' s) → (k : ℕ) (b f b' f' : Bool) (s : List ℕ)
    → Copies k Body b f s → Copies k Body b' f' s
copies_moved Body move zero b f b' f' s h = h
copies_moved Body move (suc zero) b f b' f' s h = move b f b' f' s h
copies_moved Body move (suc (suc k)) b f b' f' s h =
    (h.0, h.1, h.2, move b true b' true h.0 h.3, copies_moved Body move (suc k) true f true f' h.1 h.4)

module _ (Body : Bool → Bool → List ℕ → Type 0)
    (move : (b f b' f' : Bool) (s : List ℕ) → Body b f s → Body b' f' s) where
  pub same_to : (k : ℕ) (b f : Bool) (s : List ℕ) → Copies k Body b f s → Many (Body b f) k s
  same_to zero b f s h = h
  same_to (suc zero) b f s h = (s, [], sym (append-nil s), h, refl)
  same_to (suc (suc k)) b f s h = (
    h.0,
    h.1,
    h.2,
    move b true b f h.0 h.3,
    same_to (suc k) b f h.1 (copies_moved Body move (suc k) true f b f h.1 h.4),
  )

  pub same_from : (k : ℕ) (b f : Bool) (s : List ℕ) → Many (Body b f) k s → Copies k Body b f s
  same_from zero b f s h = h
  same_from (suc zero) b f s h = subst (Body b f) (sym (h.2 ∙ ap (λ z. h.0 ++ z) h.4 ∙ append-nil h.0)) h.3
  same_from (suc (suc k)) b f s h = (
    h.0,
    h.1,
    h.2,
    move b f b true h.0 h.3,
    copies_moved Body move (suc k) b f true f h.1 (same_from (suc k) b f h.1 h.4),
  )
