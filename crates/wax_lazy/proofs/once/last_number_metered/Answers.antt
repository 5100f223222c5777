use Rattle.std.proofs.Common.{◌-◌, ◌∙◌, ap, length, slice_get}
use Rattle.wax_lazy.proofs.Numbering.{last_where}
use Rattle.wax_lazy.proofs.once.last_number_metered.Goals as goal

pub returns-clause-last : goal.returns-clause-last
returns-clause-last c =
    let are = c.in_ok-list_numbers_metered.ensures.numbers in
    last_where _ c.list_numbers_metered.new.numbers.items c.copied.result are.0 are.1
    (c.copied.ensures ∙ c.last.ensures.value ∙ ap (λ z. slice_get z (length z - 1)) c.deref.ensures.value)
