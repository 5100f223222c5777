-- Sums of what directories count.
use Rattle.std.proofs.Common.{◌≡◌, sym, add_assoc, zero-add, add-zero, ◌∙◌}
use Rattle.wax_directory.specs.{declared.tally.Tally.Tally, Counting.{plus, no_counts}}

pub plus_assoc : (a b c : Tally) → plus a (plus b c) ≡ plus (plus a b) c
plus_assoc a b c = λ i. record {
  misses = sym (add_assoc a.misses b.misses c.misses) i;
  leaves = sym (add_assoc a.leaves b.leaves c.leaves) i;
  failures = sym (add_assoc a.failures b.failures c.failures) i;
  items = sym (add_assoc a.items b.items c.items) i;
  bad_names = sym (add_assoc a.bad_names b.bad_names c.bad_names) i;
  opened = sym (add_assoc a.opened b.opened c.opened) i;
  ended = sym (add_assoc a.ended b.ended c.ended) i;
}

pub plus_none : (a : Tally) → plus a no_counts ≡ plus no_counts a
plus_none a = λ i. record {
  misses = (add-zero a.misses ∙ sym (zero-add a.misses)) i;
  leaves = (add-zero a.leaves ∙ sym (zero-add a.leaves)) i;
  failures = (add-zero a.failures ∙ sym (zero-add a.failures)) i;
  items = (add-zero a.items ∙ sym (zero-add a.items)) i;
  bad_names = (add-zero a.bad_names ∙ sym (zero-add a.bad_names)) i;
  opened = (add-zero a.opened ∙ sym (zero-add a.opened)) i;
  ended = (add-zero a.ended ∙ sym (zero-add a.ended)) i;
}
