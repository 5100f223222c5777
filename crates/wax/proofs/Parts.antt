-- What is known of a glob in two.
use Rattle.std.proofs.Common.{◌≡◌, ◌≤◌, ℕ, false, List, [], ◌∷◌, Option, Some, None, MatchOption, inl, inr}
use Rattle.std.proofs.{Common.{ap, refl, subst, sym, ◌∙◌}, lemmas.Bool.false≢true}
use Rattle.wax_query.specs.declared.query.when.When.TheVariants.{Never, Always}
use Rattle.wax_token.specs.{Cost.program_length, Reads.{Reads, Span}, Syntax.{Tree, none, more}}
use Rattle.wax_token.specs.declared.token.Tokenized.{Tokenized}
use Rattle.wax_facts.specs.{Rules.broken, Orderly.{Flat, Full, Orderly}, Partition.rest_end}
use Rattle.wax_facts.specs.{Prefix.{Cut, Prefix, or_nothing, taken}, Rest.left}
use Rattle.wax_facts.proofs.{BuiltOrderly.built_orderly, Seams.prefix_seam}
use Rattle.wax_partition.specs.Partition.{IsPartition, rest_glob, spelled_rest}
use Rattle.wax_partition.proofs.RestKnown.{parts_branch, parts_fits, parts_orderly, parts_rest, parts_split}
use Rattle.wax_partition.proofs.RestKnown.{parts_whole}
use Rattle.wax.specs.{GlobView.{IsKept, empty_tree}, Partition.{HasParts, IsRest, MeansAlone, as_glob}}

-- ---- trees that are kept
pub built_kept : (e : List ℕ) (t : Tree Span) → Reads e t → broken t ≡ [] → IsKept t
built_kept [] t r b = inr r
built_kept (c ∷ cs) t r b = inl (built_orderly c cs t r b)

full : (t : Tree Span) → IsKept t → Full t
full t (inl o) = o.0
full t (inr e) = subst Full (sym e) tt

flat : (t : Tree Span) → IsKept t → Flat t
flat t (inl o) = o.1
flat t (inr e) = subst Flat (sym e) tt

-- ---- the empty glob has no rest
never : Never ≡ Always → ⊥
never e = cc

cut_taken : (cut : Option (ℕ × List ℕ)) → Cut (more empty_tree none) cut → (or_nothing cut).0 ≡ 1
cut_taken cut (inl h) = absurd (false≢true h.0)
cut_taken cut (inr (inl h)) = absurd (h.1 [] refl)
cut_taken cut (inr (inr h)) = ap (λ z. (or_nothing z).0) (h.4 ∙ ap (taken false h.0) h.3)

empty_taken : (n : ℕ) (p : List ℕ) → Prefix empty_tree n p → n ≡ 1
empty_taken n p (inl h) = absurd (never h.0.0)
empty_taken n p (inr h) = h.1.2 ∙ cut_taken h.1.0 h.1.1

empty_rest : (e p : List ℕ) (o : Option (List ℕ × Tree Span)) → IsPartition e empty_tree p o → o ≡ None
empty_rest e p o k =
    k.2 tt ∙ ap (λ n. rest_glob e (rest_end empty_tree n) (left empty_tree n)) (empty_taken k.0 p k.1)

-- ---- both parts
module _ (e : List ℕ) (t : Tree Span) (p : List ℕ) (kept : IsKept t) where
  orderly : (u : Tokenized Span) → IsPartition e t p (spelled_rest (Some u)) → Orderly t
  orderly u k = elim kept [ inl o ↦ o | inr q ↦ absurd (none_left q) ]
    where
      none_left : t ≡ empty_tree → ⊥
      none_left q = let f : spelled_rest (Some u) ≡ None = empty_rest e p (spelled_rest (Some u))
          (subst (λ z. IsPartition e z p (spelled_rest (Some u))) q k) in cc

  pub rest_kept : (u : Tokenized Span) → IsPartition e t p (spelled_rest (Some u)) → IsKept u.token
  rest_kept u k = inl (parts_orderly e t p (Some u) k (orderly u k))

  pub rest_fits : (u : Tokenized Span) → IsPartition e t p (spelled_rest (Some u))
      → program_length u.token ≤ program_length t
  rest_fits u k = parts_fits e t p (Some u) k (flat t kept)

  rest_tells : (o : Option (Tokenized Span)) → IsPartition e t p (spelled_rest o) →
      MatchOption (as_glob (spelled_rest o)) (MeansAlone (record { expression = e; tree = t }) p)
      (IsRest (record { expression = e; tree = t }) p)
  rest_tells None k = parts_whole e t p None k (full t kept) (flat t kept)
  rest_tells (Some u) k = record {
    after = parts_rest e t p (Some u) k (orderly u k);
    all = parts_split e t p (Some u) k (orderly u k);
    same = λ b. parts_branch e t p (Some u) k (full t kept) (flat t kept) b.0 b.1;
    costs = rest_fits u k;
  }

  pub has_parts : (o : Option (Tokenized Span)) → IsPartition e t p (spelled_rest o)
      → HasParts (record { expression = e; tree = t }) p (as_glob (spelled_rest o))
  has_parts o k = record {
    taken = k.0;
    prefix = k.1;
    rest_is = ap as_glob (k.2 (flat t kept));
    front = λ s m. prefix_seam t k.0 p s k.1 m;
    means = rest_tells o k;
  }
