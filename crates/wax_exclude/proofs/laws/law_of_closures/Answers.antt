use Rattle.std.proofs.Common.{refl}
use Rattle.wax_walk.proofs.Following.{take_filtered_by}
use Rattle.wax_walk.specs.{Ruled.IsMarkBy, Says.IsMarkSaid}
use Rattle.wax_exclude.proofs.Wanting.{comes_filtered}
use Rattle.wax_exclude.proofs.laws.law_of_closures.Goals as goal

pub returns : goal.returns
returns g c = λ d ruled rule kept says seen h.
    let view = g.I.FileIterator.view c.args.walk.now in
    comes_filtered g.I.Directory.Directory.law d ruled rule view _
    (λ p i. seen.to_come _ (rule, says, (p, i, refl)))
    (λ e t. take_filtered_by view (IsMarkSaid _ c.args.f.now) (IsMarkBy rule)
    (λ x m cut s. (s.0 rule says, s.1)) e t.0
    (seen.may_come t.0 t.1) t.2)
    seen.listings_left h
