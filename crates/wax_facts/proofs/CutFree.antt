-- What the rules keep of the cut.
use Rattle.std.proofs.Common.{List, None, Option, Some, [], ap, append-nil, arith, false, inl, inr, refl}
use Rattle.std.proofs.Common.{subst, suc, sym, true, zero, ℕ, ◌++◌, ◌∙◌, ◌≡◌, ◌≢◌}
use Rattle.wax_query.specs.Components.{EndsWithSlash}
use Rattle.wax_token.specs.{Syntax.{Tree, Trees, more, none}, Kinds.is_boundary_leaf}
use Rattle.wax_facts.specs.Situated.{first_starts_in}
use Rattle.wax_facts.specs.Orderly.{ApartEach, FullEach, IsSome, Orderly, WordedEach}
use Rattle.wax_facts.specs.Prefix.{Cut, Prefix, PrefixOf, opened, or_nothing}
use Rattle.wax_facts.specs.{Rest.{after, begins_with_tree}, inner.Cuts.IsFree}
use Rattle.wax_facts.proofs.{CutEnds.ends_at, Endings.ends_back, Fronts.{FrontText, cut_text}, Lists.nil_left}
use Rattle.wax_facts.proofs.NoTree.{begins_in, first_no_tree, where_some}
use Rattle.wax_facts.proofs.{OpenedApart.{opened_apart, opened_worded}, OpenedMeans.opened_full}
use Rattle.wax_facts.proofs.{TextEnds.{text_ends, text_some}, Truths.true_false}

front_free : {A : Type 0} (n : ℕ) (ts : Trees A) (p : List ℕ) → FullEach ts → WordedEach ts → ApartEach ts
    → FrontText (suc n) ts p →
    (p ≢ []) × (EndsWithSlash p → first_starts_in is_boundary_leaf (after (suc n) ts) ≡ false)
front_free n none p f w g h = absurd h
front_free zero (more t ts) p f w g h =
    let e : p ≡ h.0 = h.2 ∙ ap (λ z. h.0 ++ z) h.4 ∙ append-nil h.0 in (
      (λ k. text_some t f.0 w.0 g.0 h.0 h.3 (sym e ∙ k)),
      λ k. g.1 (text_ends t f.0 w.0 g.0 h.0 h.3 (subst EndsWithSlash e k)),
    )
front_free (suc n) (more t ts) p f w g h =
    let k : (h.1 ≢ []) × (EndsWithSlash h.1 → first_starts_in is_boundary_leaf (after (suc n) ts) ≡ false) =
    front_free n ts h.1 f.1 w.1 g.2 h.4 in (
      (λ e. text_some t f.0 w.0 g.0 h.0 h.3 (nil_left h.0 h.1 (sym h.2 ∙ e))),
      λ e. k.1 (ends_back h.0 h.1 k.0 (subst EndsWithSlash h.2 e)),
    )

module _ {A : Type 0} (ts : Trees A) where
  none_free : (n : ℕ) (p : List ℕ) → n ≡ 0 → IsFree ts n p
  none_free n p e = record {
    at_tree = λ le b. absurd (omega (arith, le, e));
    after_slash = λ le b. absurd (omega (arith, le, e));
  }

  front_is_free : (n : ℕ) (p : List ℕ) → FullEach ts → WordedEach ts → ApartEach ts → FrontText n ts p
      → (IsSome (after n ts) → begins_with_tree (after n ts) ≡ false → EndsWithSlash p) → IsFree ts n p
  front_is_free zero p f w g h ends = none_free 0 p refl
  front_is_free (suc n) p f w g h ends =
      let k : (p ≢ []) × (EndsWithSlash p → first_starts_in is_boundary_leaf (after (suc n) ts) ≡ false) =
      front_free n ts p f w g h in
      record {
        at_tree = λ le b. (k.0, λ e. true_false (sym (begins_in (after (suc n) ts) b) ∙ k.1 e));
        after_slash = λ le b.
            where_some (after (suc n) ts) (λ some. first_no_tree (after (suc n) ts) (k.1 (ends some b)));
      }

  cut_free : (cut : Option (ℕ × List ℕ)) (n : ℕ) (p : List ℕ) → FullEach ts → WordedEach ts → ApartEach ts
      → Cut ts cut → n ≡ (or_nothing cut).0 → p ≡ (or_nothing cut).1 → IsFree ts n p
  cut_free None n p f w g c e d = none_free n p e
  cut_free (Some cut) n p f w g c e d =
      subst (λ z. IsFree ts z p) (sym e) (subst (IsFree ts cut.0) (sym d)
      (front_is_free cut.0 cut.1 f w g (cut_text ts (Some cut) c) (ends_at ts (Some cut) c)))

  list_free : (n : ℕ) (p : List ℕ) → FullEach ts → WordedEach ts → ApartEach ts
      → PrefixOf ts n p → IsFree ts n p
  list_free n p f w g (inl h) = none_free n p h.1
  list_free n p f w g (inr h) = cut_free h.1.0 n p f w g h.1.1 h.1.2 h.1.3

pub orderly_free : {A : Type 0} (t : Tree A) (n : ℕ) (p : List ℕ) → Orderly t → Prefix t n p
    → IsFree (opened t) n p
orderly_free t n p o h =
    list_free (opened t) n p (opened_full t o.0) (opened_worded t o.2) (opened_apart t o.3) h

begins_none : (A : Type 0) (n : ℕ) → begins_with_tree {A = A} (after n none) ≡ true → ⊥
begins_none A zero e = true_false (sym e)
begins_none A (suc n) e = true_false (sym e)
