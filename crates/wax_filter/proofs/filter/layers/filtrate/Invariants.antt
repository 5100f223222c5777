use Rattle.std.proofs.Common.{◌≤◌}
use Rattle.std.specs.Iterator.{IsFinite, size}
use Rattle.wax_filter.specs.Feeding.{NextFiltrate}
use Rattle.wax_filter.proofs.filter.layers.filtrate.Given as goal

abbrev pub invariant-loop-separation : goal.invariant-loop-separation
invariant-loop-separation g l = record {
  can : g.I.SeparatingFilter.can_feed l.filter;
  ends : IsFinite (g.I.SeparatingFilter.left l.filter);
  fewer : size (g.I.SeparatingFilter.left l.filter) ≤ size (g.I.SeparatingFilter.left l.fn.filter);
  steps : (r : _) (t : _) → NextFiltrate g.I.SeparatingFilter.feeds l.filter r t
      → NextFiltrate g.I.SeparatingFilter.feeds l.fn.filter r t;
}

abbrev pub decreases-loop-separation : goal.decreases-loop-separation
decreases-loop-separation g l = size (g.I.SeparatingFilter.left l.filter)
