use Rattle.std.proofs.Common.{ℕ, List, Contains, length, ◌∷◌, [], ◌≡◌, refl, sym, subst, arith}
use Rattle.std.proofs.lemmas.List.Sorted.{Contains-permutation, IsNonDecreasingBy-from_sort}
use Rattle.std.specs.List.Sorted.{IsPermutation}
use Rattle.wax_compare.specs.inner.Cutting.{AreKept, IsCutOut}
use Rattle.wax_compare.proofs.Blocks.{cut_apart}
use Rattle.wax_compare.proofs.Kept.{before_kept, cut_kept, foldings_kept, kept_on, kept_same}
use Rattle.wax_compare.proofs.cuts.cuts.Goals as goal

sorted_kept : (xs ys : List ℕ) → IsPermutation xs ys → AreKept xs ys
sorted_kept xs ys p x h = Contains-permutation xs ys x p h

-- what the first cuts are is kept to the end
begun : (xs ys : List ℕ) (x : ℕ) → xs ≡ 0 ∷ 57344 ∷ [] → AreKept xs ys
    → Contains (0 ∷ 57344 ∷ []) x → Contains ys x
begun xs ys x e kept h = kept x (subst (λ z. Contains z x) (sym e) h)

pub returns : goal.returns
returns c =
    let code = c.args.first.now.0 in
    let other = c.args.second.now.0 in
    let start = c.in_ok-cuts.cuts.items in
    let a = c.cut_around.new.cuts.items in
    let b = c.cut_program.new.cuts.items in
    let d = c.cut_program-2.new.cuts.items in
    let e = c.cut_foldings.new.cuts.items in
    let z = c.sort_unstable.new.self.items in
    let listed = c.cut_program-2.new.folded.items in
    let last : AreKept e z = sorted_kept e z c.sort_unstable.ensures.permutation in
    let from_d : AreKept d z = kept_on d e z c.in_ok-cut_foldings.ensures.cuts last in
    let from_b : AreKept b z = kept_on b d z c.in_ok-cut_program-2.ensures.cuts from_d in
    let from_a : AreKept a z = kept_on a b z c.in_ok-cut_program.ensures.cuts from_b in
    let from_start : AreKept start z = kept_on start a z c.in_ok-cut_around.ensures.cuts from_a in
    let foldings = foldings_kept e z listed last c.in_ok-cut_foldings.ensures.all in
    let slash : IsCutOut z 47 = cut_kept a z from_a 47 c.in_ok-cut_around.ensures.cut in
    record {
      first = cut_apart z listed foldings slash code (before_kept b z from_b c.cut_program.new.folded.items
          listed c.in_ok-cut_program-2.ensures.folded code (length code) c.in_ok-cut_program.ensures.all);
      second = cut_apart z listed foldings slash other (before_kept d z from_d listed listed
          (kept_same listed) other (length other) c.in_ok-cut_program-2.ensures.all);
      slash = slash;
      begin = begun start z 0 c.in_ok-cuts.ensures.items from_start (0, omega arith, refl);
      after = begun start z 57344 c.in_ok-cuts.ensures.items from_start (1, omega arith, refl);
      rises = IsNonDecreasingBy-from_sort (λ x. x) _ c.sort_unstable.ensures.sorted;
    }
