use Rattle.std.proofs.Common.{◌≡◌, ◌∙◌, ◌++◌, ◌∷◌, [], ℕ, List, Some, ap, get_or, refl, slice_get, subst, sym}
use Rattle.std.proofs.{Common.take, lemmas.List.{take_all, take_more}, lemmas.Option.slice_get-get_or}
use Rattle.wax_exclude.proofs.IdleLines.{globs_mean, one_glob_more}
use Rattle.wax_exclude.specs.Undecided.{AreGlobsAt}
use Rattle.wax_exclude.proofs.idle.union_of.Goals as goal

pub loop-index-preserved : goal.loop-index-preserved
loop-index-preserved c =
    let lines = c.args.lines.now in
    let indexes : List ℕ = c.args.indexes.now in
    let i = c.loop-index.index-index in
    let at : ℕ = get_or indexes i 0 in
    let line = c.index-lines-index.result in
    let is : slice_get lines at ≡ Some line =
    slice_get-get_or lines at line (c.requires i 0 c.loop-index-test.true)
    ∙ ap Some (sym c.index-lines-index.is) in
    let more : c.push.new.self.items ≡ c.loop-index.tokens.items ++ line.glob ∷ [] =
    c.in_ok-push.ensures.items ∙ ap (λ t. c.loop-index.tokens.items ++ t ∷ [])
    (c.in_ok-to_owned.ensures ∙ c.glob.ensures) in
    subst (λ ks. AreGlobsAt lines ks c.push.new.self.items)
    (sym (take_more indexes i 0 c.loop-index-test.true))
    (subst (AreGlobsAt lines (take i indexes ++ at ∷ [])) (sym more)
    (one_glob_more lines (take i indexes) c.loop-index.tokens.items at line.glob
    c.loop-index.invariant (record { line = line; is = is; glob_is = refl })))

pub returns-in-Ok : goal.returns-in-Ok
returns-in-Ok c =
    let lines = c.args.lines.now in
    let indexes : List ℕ = c.args.indexes.now in
    let globs = c.loop-index.tokens.items in
    let all = take_all c.loop-index.index-index indexes c.loop-index-test.false in
    let are = subst (λ ks. AreGlobsAt lines ks globs) all c.loop-index.invariant in
    let mean = globs_mean lines indexes globs are in
    let means = rw c.new_branch-union.ensures at c.in-Ok.ensures.means in
    λ s. (let p = means s in ((λ h. (mean s).0 (p.0 h)), (λ h. p.1 ((mean s).1 h))))
