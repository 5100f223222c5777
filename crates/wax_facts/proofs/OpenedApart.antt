-- What the rules keep of a glob they keep of its opened list.
use Rattle.std.proofs.Common.{Bool, None, Some, false, refl, suc, true, zero, ◌||◌, ◌∙◌, ◌≡◌}
use Rattle.wax_token.specs.Syntax.{Tree, Trees, alternation, concatenation, leaf, more, none, repetition}
use Rattle.wax_token.specs.Kinds.{is_boundary_leaf}
use Rattle.wax_facts.specs.Situated.{first_starts_in, starts_with_leaf}
use Rattle.wax_facts.specs.{Orderly.{Apart, ApartEach, Worded, WordedEach}, Prefix.{opened, opened_last}}

mutual
  pub opened_worded : {A : Type 0} (t : Tree A) → Worded t → WordedEach (opened t)
  opened_worded (leaf a l) w = (w, tt)
  opened_worded (alternation a none) w = (w, tt)
  opened_worded (alternation a (more t none)) w = opened_worded t w.0
  opened_worded (alternation a (more t (more u us))) w = (w, tt)
  opened_worded (concatenation a ts) w = last_worded ts w
  opened_worded (repetition a t zero high) w = (w, tt)
  opened_worded (repetition a t (suc zero) None) w = (w, tt)
  opened_worded (repetition a t (suc zero) (Some zero)) w = (w, tt)
  opened_worded (repetition a t (suc zero) (Some (suc zero))) w = opened_worded t w
  opened_worded (repetition a t (suc zero) (Some (suc (suc n)))) w = (w, tt)
  opened_worded (repetition a t (suc (suc low)) high) w = (w, tt)

  last_worded : {A : Type 0} (ts : Trees A) → WordedEach ts → WordedEach (opened_last ts)
  last_worded none w = tt
  last_worded (more t none) w = opened_worded t w.0
  last_worded (more t (more u us)) w = (w.0, last_worded (more u us) w.1)

or_nil : (b c : Bool) → b ≡ c → b ≡ (c || false)
or_nil b true e = e
or_nil b false e = e

mutual
  opened_first : {A : Type 0} (t : Tree A) → first_starts_in is_boundary_leaf (opened t)
      ≡ starts_with_leaf is_boundary_leaf t
  opened_first (leaf a l) = refl
  opened_first (alternation a none) = refl
  opened_first (alternation a (more t none)) = or_nil (first_starts_in is_boundary_leaf (opened t))
      (starts_with_leaf is_boundary_leaf t) (opened_first t)
  opened_first (alternation a (more t (more u us))) = refl
  opened_first (concatenation a ts) = last_first ts
  opened_first (repetition a t zero high) = refl
  opened_first (repetition a t (suc zero) None) = refl
  opened_first (repetition a t (suc zero) (Some zero)) = refl
  opened_first (repetition a t (suc zero) (Some (suc zero))) = opened_first t
  opened_first (repetition a t (suc zero) (Some (suc (suc n)))) = refl
  opened_first (repetition a t (suc (suc low)) high) = refl

  last_first : {A : Type 0} (ts : Trees A) → first_starts_in is_boundary_leaf (opened_last ts)
      ≡ first_starts_in is_boundary_leaf ts
  last_first none = refl
  last_first (more t none) = opened_first t
  last_first (more t (more u us)) = refl

mutual
  pub opened_apart : {A : Type 0} (t : Tree A) → Apart t → ApartEach (opened t)
  opened_apart (leaf a l) g = (g, (λ e. refl), tt)
  opened_apart (alternation a none) g = (g, (λ e. refl), tt)
  opened_apart (alternation a (more t none)) g = opened_apart t g.0
  opened_apart (alternation a (more t (more u us))) g = (g, (λ e. refl), tt)
  opened_apart (concatenation a ts) g = last_apart ts g
  opened_apart (repetition a t zero high) g = (g, (λ e. refl), tt)
  opened_apart (repetition a t (suc zero) None) g = (g, (λ e. refl), tt)
  opened_apart (repetition a t (suc zero) (Some zero)) g = (g, (λ e. refl), tt)
  opened_apart (repetition a t (suc zero) (Some (suc zero))) g = opened_apart t g.1
  opened_apart (repetition a t (suc zero) (Some (suc (suc n)))) g = (g, (λ e. refl), tt)
  opened_apart (repetition a t (suc (suc low)) high) g = (g, (λ e. refl), tt)

  last_apart : {A : Type 0} (ts : Trees A) → ApartEach ts → ApartEach (opened_last ts)
  last_apart none g = tt
  last_apart (more t none) g = opened_apart t g.0
  last_apart (more t (more u us)) g = (g.0, (λ e. last_first (more u us) ∙ g.1 e), last_apart (more u us) g.2)
