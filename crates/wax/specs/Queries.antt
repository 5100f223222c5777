-- Words of contracts on queries: depths, texts, roots, prefixes, components and captures of a glob.
pub use Rattle.wax_components.specs.Bounds.{BoundsComponents, SaturatedBounds}
pub use Rattle.wax_components.specs.{Capturing.{captures, capturing}, Depth.{Depth, SaturatedDepth}}
pub use Rattle.wax_components.specs.Levels.{globs_at, literals}
pub use Rattle.wax_components.specs.Parts.{IsComponent, components, is_semantic, joint_span, literals_text}
pub use Rattle.wax_components.specs.{TopLevel.tokens_of, Warnings.{has_semantic_literals, warnings}}
pub use Rattle.wax_facts.specs.Exhaustive.{exhaustive}
pub use Rattle.wax_facts.specs.InvariantText.{AllFoldAlone, LeafText, NoText, Text, Variant, VariesInCase}
pub use Rattle.wax_facts.specs.{Joined.{Front, begins_with_leaf}, Optional.optional}
pub use Rattle.wax_facts.specs.Orderly.{Flat, Full, Orderly}
pub use Rattle.wax_facts.specs.Partition.{BeginsPlainly, IsSplit, MeansAfter, SplitsAll}
pub use Rattle.wax_facts.specs.{Prefix.{IsRooted, Prefix, opened, opened_last}, Rest.begins_with_tree}
pub use Rattle.wax_facts.specs.{Root.root, RootedTrees.is_rooted_tree}
pub use Rattle.wax_partition.specs.{Kept.{between, without_slash}, Partition.{IsPartition, spelled_rest}}
pub use Rattle.wax_rule.specs.Shifted.{shifted_each, shifted_tree}
pub use Rattle.wax_query.specs.Components.{Bare, BeginsWithSlash, EndsWithSlash, component_total, last_slash}
pub use Rattle.wax_query.specs.Components.{slash, slashes}
pub use Rattle.wax_query.specs.Labels.{AreLabels, Label, all_labels, here, seen, spans_of, split_some}
pub use Rattle.wax_query.specs.{Lending.LendsSpan, Outcome.MatchBuild}
pub use Rattle.wax_query.specs.Ranges.{AtMost, Bounds, Fits, HoldsBoth, HoldsProducts, HoldsShifted}
pub use Rattle.wax_query.specs.Ranges.{HoldsSums, IsRangeThatFits, IsVariant, bound_number, bounds}
pub use Rattle.wax_query.specs.Ranges.{given_bounds, ordered, present, product_bounds, range_of, shifted}
pub use Rattle.wax_query.specs.Ranges.{sum_bounds, union_bounds, variant_bounds, variant_range}
pub use Rattle.wax_query.specs.Variances.{IsMapped, bound, invariant, text_of, variance_copied}
pub use Rattle.wax_query.specs.{Variances.{variance_value, variant}, Whens.{certainty, greater, lesser, rank}}
pub use Rattle.wax_query.specs.declared.diagnostics.Refusal.TheVariants.{Memory, Refused}
pub use Rattle.wax_query.specs.declared.query.variance.Variance.TheVariants.{Invariant}
pub use Rattle.wax_query.specs.declared.query.when.When.{When}
pub use Rattle.wax_query.specs.declared.query.when.When.TheVariants.{Always, Never, Sometimes}
