-- The rest of a glob as it is written, and its rest in the opened list.
use Rattle.std.proofs.Common.{Bool, None, Option, Some, ap, false, refl, suc, sym, true, zero, ℕ, ◌∙◌, ◌≡◌}
use Rattle.wax_token.specs.Syntax.{Tree, Trees, alternation, concatenation, leaf, more, none, repetition}
use Rattle.wax_token.specs.Words.{members}
use Rattle.wax_facts.specs.{Orderly.{Flat, FlatEach, is_token}, Prefix.{opened, opened_last}}
use Rattle.wax_facts.specs.Rest.{after, begins_with_tree, entered, inner_cut, inner_last, or_here, owner}

pub after_none : {A : Type 0} (n : ℕ) (ts : Trees A) → ts ≡ none → after n ts ≡ none
after_none zero ts e = e
after_none (suc n) none e = refl
after_none (suc n) (more t ts) e = absurd (let f : ⊥ = cc in f)

none_opened : {A : Type 0} (n : ℕ) (ts : Trees A) → ts ≡ none → after n ts ≡ opened_last (after n ts)
none_opened n ts e = after_none n ts e ∙ sym (ap opened_last (after_none n ts e))

after_more : {A : Type 0} (n : ℕ) (t : Tree A) → opened t ≡ more t none
    → after n (opened t) ≡ opened_last (after n (more t none))
after_more zero t e = refl
after_more (suc n) t e = ap (after (suc n)) e ∙ none_opened n none refl

-- the opened list from n on is that of the owner's tokens, or of the tokens themselves
abbrev Owns : {A : Type 0} → Option (Tree A × ℕ) → Trees A → Trees A → Type 0
Owns None ys xs = ys ≡ opened_last xs
Owns (Some o) ys xs = ys ≡ opened_last (after o.1 (members o.0))

owned : {A : Type 0} (o : Option (Tree A × ℕ)) (t : Tree A) (n : ℕ) (ys : Trees A) → Owns o ys
    (after n (members t)) → ys ≡ opened_last (after (or_here (t, n) o).1 (members (or_here (t, n) o).0))
owned None t n ys h = h
owned (Some o) t n ys h = h

enter : {A : Type 0} (n : ℕ) (b : Bool) (o : Tree A × ℕ) (t u : Tree A)
    → opened t ≡ opened u → after n (opened u) ≡ opened_last (after o.1 (members o.0))
    → Owns (entered n b o) (after n (opened u)) (after n (more t none))
enter zero false o t u e h = sym e
enter zero true o t u e h = h
enter (suc n) b o t u e h = h

mutual
  pub inner_owns : {A : Type 0} (t : Tree A) → Flat t → (n : ℕ)
      → Owns (inner_cut t n) (after n (opened t)) (after n (members t))
  inner_owns (leaf a l) w n = after_more n (leaf a l) refl
  inner_owns (alternation a none) w n = after_more n (alternation a none) refl
  inner_owns (alternation a (more t none)) w n =
      enter n (begins_with_tree (opened t)) (or_here (t, n) (inner_cut t n)) (alternation a (more t none)) t
      refl (owned (inner_cut t n) t n (after n (opened t)) (inner_owns t w.0 n))
  inner_owns (alternation a (more t (more u us))) w n = after_more n (alternation a (more t (more u us))) refl
  inner_owns (concatenation a ts) w n = last_owns ts w n
  inner_owns (repetition a t zero high) w n = after_more n (repetition a t zero high) refl
  inner_owns (repetition a t (suc zero) None) w n = after_more n (repetition a t 1 None) refl
  inner_owns (repetition a t (suc zero) (Some zero)) w n = after_more n (repetition a t 1 (Some 0)) refl
  inner_owns (repetition a t (suc zero) (Some (suc zero))) w n =
      enter n (begins_with_tree (opened t)) (or_here (t, n) (inner_cut t n)) (repetition a t 1 (Some 1)) t
      refl (owned (inner_cut t n) t n (after n (opened t)) (inner_owns t w n))
  inner_owns (repetition a t (suc zero) (Some (suc (suc m)))) w n =
      after_more n (repetition a t 1 (Some (suc (suc m)))) refl
  inner_owns (repetition a t (suc (suc low)) high) w n =
      after_more n (repetition a t (suc (suc low)) high) refl

  last_owns : {A : Type 0} (ts : Trees A) → FlatEach ts → (n : ℕ)
      → Owns (inner_last ts n) (after n (opened_last ts)) (after n ts)
  last_owns none w n = none_opened n none refl
  last_owns (more t none) w n = alone t w.0 n (inner_owns t w.1 n)
  last_owns (more t (more u us)) w zero = refl
  last_owns (more t (more u us)) w (suc n) = last_owns (more u us) w.2 n

  alone : {A : Type 0} (t : Tree A) → is_token t ≡ true → (n : ℕ) → Owns (inner_cut t n) (after n (opened t))
      (after n (members t)) → Owns (inner_cut t n) (after n (opened t)) (after n (more t none))
  alone (leaf a l) e n h = h
  alone (alternation a ts) e n h = h
  alone (concatenation a ts) e n h = absurd (let f : ⊥ = cc in f)
  alone (repetition a t low high) e n h = h

pub owner_opened : {A : Type 0} (t : Tree A) → Flat t → (n : ℕ)
    → after n (opened t) ≡ opened_last (after (owner t n).1 (members (owner t n).0))
owner_opened t w n = owned (inner_cut t n) t n (after n (opened t)) (inner_owns t w n)
