use Rattle.std.proofs.Common.{◌≡◌, ℕ, List, [], ◌∷◌, ◌++◌, map, refl, ap}
use Rattle.std.specs.Borrow.{Bor}
use Rattle.wax_query.specs.{Labels.seen, Spans.Span}
use Rattle.wax_query.proofs.diagnostics.located.CorrelatedSpan.added_to.Goals as goal

one_more : (ls : List (Bor (List ℕ) × Span)) (l : Bor (List ℕ) × Span)
    → map seen (ls ++ l ∷ []) ≡ map seen ls ++ seen l ∷ []
one_more [] l = refl
one_more (m ∷ ls) l = ap (λ ms. seen m ∷ ms) (one_more ls l)

two_more : (ls : List (Bor (List ℕ) × Span)) (l m : Bor (List ℕ) × Span)
    → map seen ((ls ++ l ∷ []) ++ m ∷ []) ≡ map seen ls ++ seen l ∷ seen m ∷ []
two_more [] l m = refl
two_more (n ∷ ls) l m = ap (λ ms. seen n ∷ ms) (two_more ls l m)

pub returns-in_ok-push-in-Contiguous : goal.returns-in_ok-push-in-Contiguous
returns-in_ok-push-in-Contiguous c =
    rw (c.in_ok-push-in-Contiguous.ensures.items, c.in-Contiguous.is) (one_more c.args.labels.items _)

pub returns-in_ok-push-in-Split-2 : goal.returns-in_ok-push-in-Split-2
returns-in_ok-push-in-Split-2 c =
    rw (c.in_ok-push-in-Split-2.ensures.items, c.in_ok-push-in-Split.ensures.items, c.in-Split.is)
    (two_more c.args.labels.items _ _)
