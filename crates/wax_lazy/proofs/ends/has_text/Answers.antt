use Rattle.std.proofs.Common.{refl}
use Rattle.wax_lazy.proofs.{Ahead.{has_name, has_rest}, Walking.decides_by}
use Rattle.wax_lazy.proofs.ends.has_text.Goals as goal

pub returns-in-Rest : goal.returns-in-Rest
returns-in-Rest c = ((λ _. has_rest c.args.most c.args.m c.in-Rest.is), (λ _. refl))

pub returns-in-Path : goal.returns-in-Path
returns-in-Path c =
    decides_by c.allows_one.result _ _ (has_name c.args.most c.args.m c.in-Path.is) c.allows_one.ensures
