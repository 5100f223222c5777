use Rattle.std.proofs.Common.{◌≡◌, ◌↔◌, Bool, ℕ, List, rules, subst, sym}
use Rattle.wax_token.specs.{Meaning.{LeafMeans, Means}, Syntax.repetition, View.leaf_of, Words.annotation_of}
use Rattle.wax_lengths.specs.Forms.{IsRunOf}
use Rattle.wax_capture.specs.inner.Ways.{PassesOne}
use Rattle.wax_capture.proofs.Runs.{run_means}
use Rattle.wax_capture.proofs.ways.form_of_run.Goals as goal

pub returns-clause-means : goal.returns-clause-means
returns-clause-means g c = λ before after x.
    let r = c.in-Branch-Repetition.repetition in
    let leaf = c.in-Some.leaf.now in
    let test = c.in-Some-2.test in
    let passes : (b a : Bool) (y : List ℕ) → PassesOne test y ↔ LeafMeans (leaf_of leaf) b a y =
    rw c.in-Some-2.is at c.in_ok-test.ensures in
    let body : c.deref.result.now ≡ r.token.value = search rules in
    let means : (b a : Bool) (y : List ℕ) → LeafMeans (leaf_of leaf) b a y ↔ Means r.token.value b a y =
    rw body at c.in-Some.ensures.means in
    let same : repetition (annotation_of c.args.token.now) r.token.value r.lower r.upper
    ≡ c.args.token.now = search rules in
    let one : (b a : Bool) (y : List ℕ) → PassesOne test y ↔ Means r.token.value b a y =
    λ b a y. ((λ h. (means b a y).0 ((passes b a y).0 h)), (λ h. (passes b a y).1 ((means b a y).1 h))) in
    let boxed : c.in_ok-new.field-0.value ≡ test = search rules in
    subst (λ u. IsRunOf u r.lower r.upper x ↔ Means c.args.token.now before after x) (sym boxed)
    (subst (λ t. IsRunOf test r.lower r.upper x ↔ Means t before after x) same
    (run_means test (Means r.token.value) one r.lower r.upper before after x))
