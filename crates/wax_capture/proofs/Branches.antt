-- The forms of branches.
use Rattle.std.proofs.Common.{◌≡◌, ℕ, zero, suc, ◌+◌, ◌<◌, ◌≤◌, ◌↔◌, Bool, List, [], ◌∷◌, ◌++◌, length}
use Rattle.std.proofs.Common.{get_or, take, Some, slice_get, sym, ◌∙◌, ap, subst, inl, inr, arith}
use Rattle.std.proofs.{lemmas.Bool.cases_lt, lemmas.Option.slice_get_within}
use Rattle.wax_token.specs.{Cost.{cost, branches_cost}, Meaning.Means, Syntax.Tree, Words.trees}
use Rattle.wax_capture.specs.{Captures.MeansBranch, Pieces.{WayIn, size_of}}
use Rattle.wax_lengths.specs.{Forms.{TakenBy, form_size}, declared.form.Form.Form}
use Rattle.wax_lengths.proofs.Lists.{slice_left, slice_seam, some_same}

-- ---- one token of a row
pub record Stands {A : Type 0} (ts : List (Tree A)) (i : ℕ) (t : Tree A) : Type 0 where
  pub to : (before after : Bool) (x : List ℕ) → MeansBranch (trees ts) i before after x
      → Means t before after x
  pub from : (before after : Bool) (x : List ℕ) → Means t before after x
      → MeansBranch (trees ts) i before after x
  pub cheap : branches_cost (trees (take (i + 1) ts)) ≡ branches_cost (trees (take i ts)) + (cost t + 2)
  pub part : cost t ≤ branches_cost (trees ts)

pub stands : {A : Type 0} (ts : List (Tree A)) (i : ℕ) (t : Tree A) → i < length ts
    → t ≡ get_or ts i t → Stands ts i t
stands [] i t lt is = absurd (omega (arith, lt))
stands (u ∷ ts) zero t lt is = subst (λ z. Stands (u ∷ ts) zero z) (sym is)
    (record { to = λ b a x h. h; from = λ b a x h. h; cheap = omega arith; part = omega arith })
stands (u ∷ ts) (suc i) t lt is =
    let r : Stands ts i t = stands ts i t (omega (arith, lt)) is in
    let n : suc i + 1 ≡ suc (i + 1) = omega arith in
    let cheap : branches_cost (trees (take (suc (i + 1)) (u ∷ ts)))
    ≡ branches_cost (trees (take (suc i) (u ∷ ts))) + (cost t + 2) = omega (arith, r.cheap) in
    record {
      to = λ b a x h. r.to b a x h;
      from = λ b a x h. r.from b a x h;
      cheap = rw n cheap;
      part = omega (arith, r.part);
    }

-- ---- the branches, one after another
abbrev pub WaysTo : {A : Type 0} → List (Tree A) → Bool → Bool → List Form → ℕ → Type 0
WaysTo ts before after forms n = (k : ℕ) (x : List ℕ) → k < n
    → MeansBranch (trees ts) k before after x ↔ WayIn forms k x

pub ways_push : {A : Type 0} (ts : List (Tree A)) (before after : Bool) (forms : List Form) (n : ℕ)
    (form : Form) → length forms ≡ n → (t : Tree A) (s : Stands ts n t) →
    ((x : List ℕ) → TakenBy form x ↔ Means t before after x) → WaysTo ts before after forms n
    → WaysTo ts before after (forms ++ form ∷ []) (n + 1)
ways_push ts before after forms n form count t s means to k x lt = elim (cases_lt k n) [
  | inl less ↦ (let e : slice_get (forms ++ form ∷ []) k ≡ slice_get forms k =
      slice_left forms (form ∷ []) k (omega (arith, less, count)) in (
        (λ h. let w : WayIn forms k x = (to k x less).0 h in (w.0, e ∙ w.1, w.2)),
        (λ h. (to k x less).1 (h.0, sym e ∙ h.1, h.2)),
      ))
  | inr ge ↦ (let same : k ≡ n = omega (arith, ge, lt) in
      let at : slice_get (forms ++ form ∷ []) k ≡ Some form =
      ap (slice_get (forms ++ form ∷ [])) (same ∙ sym count) ∙ slice_seam forms form in (
        (λ h. (
          form,
          at,
          (means x).1 (s.to before after x (subst (λ i. MeansBranch (trees ts) i before after x) same h)),
        )),
        (λ h. subst (λ i. MeansBranch (trees ts) i before after x) (sym same)
            (s.from before after x ((means x).0 (subst (λ w. TakenBy w x) (some_same (sym h.1 ∙ at)) h.2)))),
      ))
]

no_branch : {A : Type 0} (ts : List (Tree A)) (k : ℕ) (before after : Bool) (x : List ℕ) → length ts ≤ k
    → MeansBranch (trees ts) k before after x → ⊥
no_branch [] k before after x le h = h
no_branch (t ∷ ts) zero before after x le h = omega (arith, le)
no_branch (t ∷ ts) (suc k) before after x le h = no_branch ts k before after x (omega (arith, le)) h

pub ways_all : {A : Type 0} (ts : List (Tree A)) (before after : Bool) (forms : List Form) (n : ℕ)
    → length ts ≤ n → length forms ≡ n → WaysTo ts before after forms n →
    (k : ℕ) (x : List ℕ) → MeansBranch (trees ts) k before after x ↔ WayIn forms k x
ways_all ts before after forms n le count to k x = elim (cases_lt k n) [
  | inl less ↦ to k x less
  | inr ge ↦ (
    (λ h. absurd (no_branch ts k before after x (omega (arith, le, ge)) h)),
    (λ h. absurd (past (slice_get_within forms k h.0 h.1) ge)),
  )
]
  where
    past : k < length forms → n ≤ k → ⊥
    past lt ge = omega (arith, lt, ge, count)

pub sizes_push : (forms : List Form) (form : Form)
    → size_of (forms ++ form ∷ []) ≡ size_of forms + form_size form
sizes_push [] form = omega arith
sizes_push (f ∷ forms) form = omega (arith, sizes_push forms form)
