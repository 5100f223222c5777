-- Where the opened list begins with `**`, so does the written one.
use Rattle.std.proofs.Common.{Bool, None, Option, Some, ap, false, refl, subst, suc, sym, true, zero, ℕ, ◌∙◌}
use Rattle.std.proofs.Common.{◌≡◌}
use Rattle.wax_token.specs.Syntax.{Tree, Trees, alternation, concatenation, leaf, more, none, repetition}
use Rattle.wax_token.specs.Words.{members}
use Rattle.wax_facts.specs.{Orderly.{Flat, FlatEach, is_token}, Prefix.{opened, opened_last}}
use Rattle.wax_facts.specs.Rest.{after, begins_with_tree, entered, inner_cut, inner_last, or_here}
use Rattle.wax_facts.proofs.{Owners.after_none, Truths.false_true}

abbrev pub Tells : {A : Type 0} → Trees A → Type 0
Tells xs = begins_with_tree (opened_last xs) ≡ true → begins_with_tree xs ≡ true

abbrev Settles : {A : Type 0} → Option (Tree A × ℕ) → Trees A → Type 0
Settles None xs = Tells xs
Settles (Some o) xs = Tells (after o.1 (members o.0))

none_tells : {A : Type 0} (n : ℕ) (ts : Trees A) → ts ≡ none → Tells (after n ts)
none_tells n ts e = subst Tells (sym (after_none n ts e)) (λ h. h)

more_tells : {A : Type 0} (n : ℕ) (t : Tree A) → opened t ≡ more t none → Tells (after n (more t none))
more_tells zero t e = λ h. sym (ap begins_with_tree e) ∙ h
more_tells (suc n) t e = none_tells n none refl

pub settled : {A : Type 0} (o : Option (Tree A × ℕ)) (t : Tree A) (n : ℕ) → Settles o (after n (members t))
    → Tells (after (or_here (t, n) o).1 (members (or_here (t, n) o).0))
settled None t n h = h
settled (Some o) t n h = h

settle : {A : Type 0} (n : ℕ) (b : Bool) (o : Tree A × ℕ) (t u : Tree A) → begins_with_tree (opened u) ≡ b
    → opened t ≡ opened u → Tells (after o.1 (members o.0)) → Settles (entered n b o) (after n (more t none))
settle zero false o t u e g h = λ k. false_true (sym e ∙ sym (ap begins_with_tree g) ∙ k)
settle zero true o t u e g h = h
settle (suc n) b o t u e g h = h

mutual
  pub inner_settles : {A : Type 0} (t : Tree A) → Flat t → (n : ℕ)
      → Settles (inner_cut t n) (after n (members t))
  inner_settles (leaf a l) w n = more_tells n (leaf a l) refl
  inner_settles (alternation a none) w n = more_tells n (alternation a none) refl
  inner_settles (alternation a (more t none)) w n =
      settle n (begins_with_tree (opened t)) (or_here (t, n) (inner_cut t n))
      (alternation a (more t none)) t refl refl (settled (inner_cut t n) t n (inner_settles t w.0 n))
  inner_settles (alternation a (more t (more u us))) w n =
      more_tells n (alternation a (more t (more u us))) refl
  inner_settles (concatenation a ts) w n = last_settles ts w n
  inner_settles (repetition a t zero high) w n = more_tells n (repetition a t zero high) refl
  inner_settles (repetition a t (suc zero) None) w n = more_tells n (repetition a t 1 None) refl
  inner_settles (repetition a t (suc zero) (Some zero)) w n = more_tells n (repetition a t 1 (Some 0)) refl
  inner_settles (repetition a t (suc zero) (Some (suc zero))) w n =
      settle n (begins_with_tree (opened t)) (or_here (t, n) (inner_cut t n))
      (repetition a t 1 (Some 1)) t refl refl (settled (inner_cut t n) t n (inner_settles t w n))
  inner_settles (repetition a t (suc zero) (Some (suc (suc m)))) w n =
      more_tells n (repetition a t 1 (Some (suc (suc m)))) refl
  inner_settles (repetition a t (suc (suc low)) high) w n =
      more_tells n (repetition a t (suc (suc low)) high) refl

  last_settles : {A : Type 0} (ts : Trees A) → FlatEach ts → (n : ℕ) → Settles (inner_last ts n) (after n ts)
  last_settles none w n = none_tells n none refl
  last_settles (more t none) w n = alone_settles t w.0 n (inner_settles t w.1 n)
  last_settles (more t (more u us)) w zero = λ h. h
  last_settles (more t (more u us)) w (suc n) = last_settles (more u us) w.2 n

  alone_settles : {A : Type 0} (t : Tree A) → is_token t ≡ true → (n : ℕ)
      → Settles (inner_cut t n) (after n (members t)) → Settles (inner_cut t n) (after n (more t none))
  alone_settles (leaf a l) e n h = h
  alone_settles (alternation a ts) e n h = h
  alone_settles (concatenation a ts) e n h = absurd (let f : ⊥ = cc in f)
  alone_settles (repetition a t low high) e n h = h
