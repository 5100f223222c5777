-- Words of contracts on the language: what expressions spell, what breaks the rules, and what trees mean.
pub use Rattle.wax_facts.specs.{Alternatives.{MeansOneOf, alternatives, levels, levels_each}, Rules.broken}
pub use Rattle.wax_facts.specs.Sizes.{saturated_size}
pub use Rattle.wax_rule.specs.{Drawn.{label_lines, picture}, Locations.{error_labels, location_of}}
pub use Rattle.wax_rule.specs.{Numbers.build_number, Refusals.IsRuleRefusal}
pub use Rattle.wax_rule.specs.declared.error.build_error.BuildError.{BuildError}
pub use Rattle.wax_rule.specs.declared.error.build_error.BuildError.TheVariants.{Memory}
pub use Rattle.wax_rule.specs.{FirstBreak.TellsFirst, Keeping.KeepsRules}
pub use Rattle.wax_fold.specs.{Bare.bare, Branches.{Branch, branch_of, composed, picked, tokens_in}}
pub use Rattle.wax_fold.specs.{Folded.{Folding, folded, folded_each, listed_term}, Mapped.{Mapping, mapped}}
pub use Rattle.wax_fold.specs.Order.{level, root_entry, tree_order}
pub use Rattle.wax_fold.specs.Sequences.{ending_chosen, forward_chosen, places, starting_chosen}
pub use Rattle.wax_fold.specs.{Subtrees.subtrees, Walking.{below, cancelled, to_come, walk_begun, walking}}
pub use Rattle.wax_parse.specs.{Accepted.IsPlace, Backslash.HasNoBackslash}
pub use Rattle.wax_token.specs.Compositions.{children_of, composition_copied, composition_of}
pub use Rattle.wax_token.specs.Compositions.{composition_value, conjunctive, disjunctive, on_inner}
pub use Rattle.wax_token.specs.Cost.{branches_cost, cost, costs, holds_tree, is_tree, program_length}
pub use Rattle.wax_token.specs.{Cost.some_holds_tree, Decided.{means_test, means_tested}}
pub use Rattle.wax_token.specs.Kinds.{alternation_of, boundary_of, class_of, concatenation_of, has_boundary}
pub use Rattle.wax_token.specs.Kinds.{is_alternation, is_boundary, is_boundary_leaf, is_branch, is_capturing}
pub use Rattle.wax_token.specs.Kinds.{is_capturing_leaf, is_concatenation, is_literal, is_literal_leaf}
pub use Rattle.wax_token.specs.Kinds.{is_rooting_leaf, is_separator, is_separator_leaf, is_tree_leaf}
pub use Rattle.wax_token.specs.Kinds.{is_tree_wildcard, is_zero_or_more_leaf, leaf_boundary, literal_of}
pub use Rattle.wax_token.specs.Kinds.{repetition_of, some_has_boundary, wildcard_of}
pub use Rattle.wax_token.specs.Meaning.{HasNoSlash, Means, MeansEach, MeansSome, SameText, in_class}
pub use Rattle.wax_token.specs.Reads.{Around, Flags, NoWildcardFollows, Past, Place, Reads, ReadsBranches}
pub use Rattle.wax_token.specs.Reads.{ReadsGlob, ReadsLeaf, ReadsToken, ReadsTokens, Span, all_spelled}
pub use Rattle.wax_token.specs.Reads.{class_text, escapable, evaluation_text, group, in_alternation}
pub use Rattle.wax_token.specs.Reads.{in_repetition, is_one_of, no_flags, start, starts_with_one_of}
pub use Rattle.wax_token.specs.Reads.{toggles_text, utf8_len, whole}
pub use Rattle.wax_token.specs.Spelled.{AllHaveNoSlash, LeafHasNoSlash, LiesBetween, LiteralsHaveNoSlash}
pub use Rattle.wax_token.specs.Syntax.{Leaf, Tree, Trees, alternation, class, concatenation, leaf, literal}
pub use Rattle.wax_token.specs.Syntax.{more, none, one, repetition, separator, tree, tree_size, trees_size}
pub use Rattle.wax_token.specs.{Syntax.zero_or_more, View.{branch_tree, leaf_of, topology_tree}}
pub use Rattle.wax_token.specs.Words.{annotation_of, is_leaf_tree, listed, members, trees}
pub use Rattle.wax_token.specs.contracts.token.composition.Composition.{the_row}
pub use Rattle.wax_token.specs.declared.token.Archetype.{Archetype}
pub use Rattle.wax_token.specs.declared.token.Evaluation.TheVariants.{Eager}
pub use Rattle.wax_token.specs.declared.token.Tokenized.{Tokenized}
