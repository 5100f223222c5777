use Rattle.std.proofs.{Common.{length, sym, subst}, lemmas.Result.IfOk-weaker}
use Rattle.std.proofs.lemmas.List.Sorted.{Contains-permutation}
use Rattle.wax_compare.specs.{inner.Cutting.Serve, Cuts.AreLetters}
use Rattle.wax_compare.proofs.{Letters.letters_stand, Merging.letters_merged}
use Rattle.wax_compare.proofs.alphabet.alphabet.Goals as goal

pub returns-clause-letters : goal.returns-clause-letters
returns-clause-letters c =
    let code = c.args.first.now.0 in
    let other = c.args.second.now.0 in
    let cuts = c.in_ok-cuts.cuts.items in
    let letters = c.in_ok-letters.letters.items in
    let sorted = c.sort_unstable_by_key.new.self.items in
    let told = c.in_ok-cuts.ensures in
    let serve : Serve cuts letters (length cuts) =
    subst (λ z. Serve z letters (length z)) c.deref.ensures.value c.in_ok-letters.ensures in
    let stand : AreLetters code other sorted = letters_stand code other cuts letters sorted told.rises
    told.begin told.slash told.first told.second serve
    (λ x h. Contains-permutation letters sorted x c.sort_unstable_by_key.ensures.permutation h) in
    IfOk-weaker c.merge.result _ _ (λ v merged. letters_merged code other c.deref-2.result.now v.items
    (subst (AreLetters code other) (sym c.deref-2.ensures.value) stand) merged) c.merge.ensures.stands
