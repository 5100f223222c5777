use Rattle.std.proofs.Common.{◌∙◌, ap, subst, sym}
use Rattle.wax_prefilter.specs.inner.Ends.{ComesBefore}
use Rattle.wax_prefilter.proofs.prefilter.Fact.find_line_end.Goals as goal

pub find_line_end-requires-else-is_feed : goal.find_line_end-requires-else-is_feed
find_line_end-requires-else-is_feed c =
    subst (ComesBefore c.args.end) (ap (λ v. v.1) (sym c.self.view_is)
    ∙ sym c.deref-else-is_feed.ensures.value) c.requires
