-- The opened list means what the glob means.
use Rattle.std.proofs.Common.{Bool, List, None, Some, ap, append-nil, arith, inl, inr, subst, suc, sym, true}
use Rattle.std.proofs.Common.{zero, ℕ, ◌++◌, ◌∙◌, ◌≡◌}
use Rattle.wax_token.specs.Meaning.{Means, MeansEach}
use Rattle.wax_token.specs.Syntax.{Tree, Trees, alternation, concatenation, leaf, more, none, repetition}
use Rattle.wax_facts.specs.{Orderly.{Full, FullEach, IsSome}, Prefix.{opened, opened_last}}
use Rattle.wax_facts.proofs.OneCopy.{one_copy}

put : {A : Type 0} (t : Tree A) (ts : Trees A) → IsSome ts → (b f : Bool) (s x y : List ℕ) → s ≡ x ++ y
    → Means t b true x → MeansEach ts true f y → MeansEach (more t ts) b f s
put t none some b f s x y e m k = absurd some
put t (more u us) some b f s x y e m k = (x, y, e, m, k)

abbrev Parts : {A : Type 0} → Tree A → Trees A → Bool → Bool → List ℕ → Type 0
Parts t ts b f s = (x : List ℕ) × (y : List ℕ) × (s ≡ x ++ y) × Means t b true x × MeansEach ts true f y

get : {A : Type 0} (t : Tree A) (ts : Trees A) → IsSome ts → (b f : Bool) (s : List ℕ)
    → MeansEach (more t ts) b f s → Parts t ts b f s
get t none some b f s m = absurd some
get t (more u us) some b f s m = m

mutual
  pub opened_some : {A : Type 0} (t : Tree A) → Full t → IsSome (opened t)
  opened_some (leaf a l) w = tt
  opened_some (alternation a none) w = tt
  opened_some (alternation a (more t none)) w = opened_some t w.1.0
  opened_some (alternation a (more t (more u us))) w = tt
  opened_some (concatenation a ts) w = last_some ts w.0 w.1
  opened_some (repetition a t zero high) w = tt
  opened_some (repetition a t (suc zero) None) w = tt
  opened_some (repetition a t (suc zero) (Some zero)) w = tt
  opened_some (repetition a t (suc zero) (Some (suc zero))) w = opened_some t w
  opened_some (repetition a t (suc zero) (Some (suc (suc n)))) w = tt
  opened_some (repetition a t (suc (suc low)) high) w = tt

  pub last_some : {A : Type 0} (ts : Trees A) → IsSome ts → FullEach ts → IsSome (opened_last ts)
  last_some none some w = absurd some
  last_some (more t none) some w = opened_some t w.0
  last_some (more t (more u us)) some w = tt

mutual
  pub opened_full : {A : Type 0} (t : Tree A) → Full t → FullEach (opened t)
  opened_full (leaf a l) w = (tt, tt)
  opened_full (alternation a none) w = (w, tt)
  opened_full (alternation a (more t none)) w = opened_full t w.1.0
  opened_full (alternation a (more t (more u us))) w = (w, tt)
  opened_full (concatenation a ts) w = last_full ts w.1
  opened_full (repetition a t zero high) w = (w, tt)
  opened_full (repetition a t (suc zero) None) w = (w, tt)
  opened_full (repetition a t (suc zero) (Some zero)) w = (w, tt)
  opened_full (repetition a t (suc zero) (Some (suc zero))) w = opened_full t w
  opened_full (repetition a t (suc zero) (Some (suc (suc n)))) w = (w, tt)
  opened_full (repetition a t (suc (suc low)) high) w = (w, tt)

  last_full : {A : Type 0} (ts : Trees A) → FullEach ts → FullEach (opened_last ts)
  last_full none w = tt
  last_full (more t none) w = opened_full t w.0
  last_full (more t (more u us)) w = (w.0, last_full (more u us) w.1)

mutual
  pub opened_to : {A : Type 0} (t : Tree A) → Full t → (b f : Bool) (s : List ℕ) → Means t b f s
      → MeansEach (opened t) b f s
  opened_to (leaf a l) w b f s m = m
  opened_to (alternation a none) w b f s m = m
  opened_to (alternation a (more t none)) w b f s m =
      elim m [ inl k ↦ opened_to t w.1.0 b f s k | inr k ↦ absurd k ]
  opened_to (alternation a (more t (more u us))) w b f s m = m
  opened_to (concatenation a ts) w b f s m = last_to ts w.0 w.1 b f s m
  opened_to (repetition a t zero high) w b f s m = m
  opened_to (repetition a t (suc zero) None) w b f s m = m
  opened_to (repetition a t (suc zero) (Some zero)) w b f s m = m
  opened_to (repetition a t (suc zero) (Some (suc zero))) w b f s m =
      opened_to t w b f s (one_copy (Means t) m.0 b f s m.1 m.2 m.3)
  opened_to (repetition a t (suc zero) (Some (suc (suc n)))) w b f s m = m
  opened_to (repetition a t (suc (suc low)) high) w b f s m = m

  pub last_to : {A : Type 0} (ts : Trees A) → IsSome ts → FullEach ts → (b f : Bool) (s : List ℕ)
      → MeansEach ts b f s → MeansEach (opened_last ts) b f s
  last_to none some w b f s m = m
  last_to (more t none) some w b f s m = opened_to t w.0 b f s m
  last_to (more t (more u us)) some w b f s m = put t (opened_last (more u us))
      (last_some (more u us) tt w.1) b f s m.0 m.1 m.2 m.3 (last_to (more u us) tt w.1 true f m.1 m.4)

mutual
  pub opened_from : {A : Type 0} (t : Tree A) → Full t → (b f : Bool) (s : List ℕ)
      → MeansEach (opened t) b f s → Means t b f s
  opened_from (leaf a l) w b f s m = m
  opened_from (alternation a none) w b f s m = m
  opened_from (alternation a (more t none)) w b f s m = inl (opened_from t w.1.0 b f s m)
  opened_from (alternation a (more t (more u us))) w b f s m = m
  opened_from (concatenation a ts) w b f s m = last_from ts w.0 w.1 b f s m
  opened_from (repetition a t zero high) w b f s m = m
  opened_from (repetition a t (suc zero) None) w b f s m = m
  opened_from (repetition a t (suc zero) (Some zero)) w b f s m = m
  opened_from (repetition a t (suc zero) (Some (suc zero))) w b f s m =
      (1, omega arith, omega arith, opened_from t w b f s m)
  opened_from (repetition a t (suc zero) (Some (suc (suc n)))) w b f s m = m
  opened_from (repetition a t (suc (suc low)) high) w b f s m = m

  pub last_from : {A : Type 0} (ts : Trees A) → IsSome ts → FullEach ts → (b f : Bool) (s : List ℕ)
      → MeansEach (opened_last ts) b f s → MeansEach ts b f s
  last_from none some w b f s m = m
  last_from (more t none) some w b f s m = opened_from t w.0 b f s m
  last_from (more t (more u us)) some w b f s m =
      let k : Parts t (opened_last (more u us)) b f s =
      get t (opened_last (more u us)) (last_some (more u us) tt w.1) b f s m in
      (k.0, k.1, k.2, k.3, last_from (more u us) tt w.1 true f k.1 k.4)

-- ---- without `Full`: a token before an empty list is the last one, and has something after it all the same

put_before : {A : Type 0} (t : Tree A) (ts : Trees A) (b g : Bool) (s x y : List ℕ) → s ≡ x ++ y
    → Means t b true x → MeansEach ts true g y → (h : Bool) × MeansEach (more t ts) b h s
put_before t none b g s x y e m k =
    (true, subst (Means t b true) (sym (e ∙ ap (λ z. x ++ z) k ∙ append-nil x)) m)
put_before t (more u us) b g s x y e m k = (g, (x, y, e, m, k))

mutual
  -- whatever a glob means, its opened list means, perhaps with something after it
  pub opened_meant : {A : Type 0} (t : Tree A) (b f : Bool) (s : List ℕ) → Means t b f s
      → (g : Bool) × MeansEach (opened t) b g s
  opened_meant (leaf a l) b f s m = (f, m)
  opened_meant (alternation a none) b f s m = (f, m)
  opened_meant (alternation a (more t none)) b f s m =
      elim m [ inl k ↦ opened_meant t b f s k | inr k ↦ absurd k ]
  opened_meant (alternation a (more t (more u us))) b f s m = (f, m)
  opened_meant (concatenation a ts) b f s m = last_meant ts b f s m
  opened_meant (repetition a t zero high) b f s m = (f, m)
  opened_meant (repetition a t (suc zero) None) b f s m = (f, m)
  opened_meant (repetition a t (suc zero) (Some zero)) b f s m = (f, m)
  opened_meant (repetition a t (suc zero) (Some (suc zero))) b f s m =
      opened_meant t b f s (one_copy (Means t) m.0 b f s m.1 m.2 m.3)
  opened_meant (repetition a t (suc zero) (Some (suc (suc n)))) b f s m = (f, m)
  opened_meant (repetition a t (suc (suc low)) high) b f s m = (f, m)

  last_meant : {A : Type 0} (ts : Trees A) (b f : Bool) (s : List ℕ) → MeansEach ts b f s
      → (g : Bool) × MeansEach (opened_last ts) b g s
  last_meant none b f s m = (f, m)
  last_meant (more t none) b f s m = opened_meant t b f s m
  last_meant (more t (more u us)) b f s m =
      let k : (g : Bool) × MeansEach (opened_last (more u us)) true g m.1 =
      last_meant (more u us) true f m.1 m.4 in
      put_before t (opened_last (more u us)) b k.0 s m.0 m.1 m.2 m.3 k.1
