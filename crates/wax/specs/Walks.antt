-- Words of contracts on walks: directories, their listings, filters, and what is kept.
pub use Rattle.wax_directory.specs.{Answers.{KindIs, ListIs}, Calls.{Nexts, OpensAt, ReportsOpened}}
pub use Rattle.wax_directory.specs.Copies.{IsCopy}
pub use Rattle.wax_directory.specs.Counting.{Counts, after_counting, end_counts, item_counts, kind_counts}
pub use Rattle.wax_directory.specs.Counting.{next_counts, no_counts, opening_counts}
pub use Rattle.wax_directory.specs.History.{kind_answers, next_answers, opening_answers}
pub use Rattle.wax_directory.specs.Law.{HoldsLast, HoldsSame, Law, ShowsSame}
pub use Rattle.wax_directory.specs.Listing.{CountsListed, HeldWhereShown, ReportsListed}
pub use Rattle.wax_directory.specs.{Names.{is_plain, is_rooted}, Nodes.{HasDistinctNames, HasDuplicateName}}
pub use Rattle.wax_directory.specs.PathTails.{HoldsBy, PathTail, StandsBy, leads_on, listing_by, tails_to}
pub use Rattle.wax_directory.specs.PlainNames.{plain_of}
pub use Rattle.wax_directory.specs.Shown.{IsDistinct, IsPlain, Items, Shown, ShowsIn, a_folder, a_leaf}
pub use Rattle.wax_directory.specs.Shown.{a_sealed, child_shown, end, folder, join, leaf, leaf_kind, listing}
pub use Rattle.wax_directory.specs.{Shown.{misnamed, not_text, sealed, unread}, Starved.starved_law}
pub use Rattle.wax_directory.specs.{TreeCursors.last_dropped, TreeLaw.{tree_child, tree_distinct, tree_inner}}
pub use Rattle.wax_directory.specs.Trees.{shown_in, tree_law}
pub use Rattle.wax_directory.specs.Turns.{failing_inside, fails_after, starves_after, starving_inside}
pub use Rattle.wax_directory.specs.declared.directory.FileType.{FileType}
pub use Rattle.wax_directory.specs.declared.directory.FileType.TheVariants.{File, Folder, Link}
pub use Rattle.wax_exclude.specs.{Candidates.{NoSlashAfterNames, folder_at}, Covers.{CoversSome, covers_test}}
pub use Rattle.wax_exclude.specs.Due.{Due, KeepsDue, gives, lacks_memory, over_budget}
pub use Rattle.wax_exclude.specs.Excluded.{excluded_mark}
pub use Rattle.wax_exclude.specs.Feeds.{FeedsByRequest, FeedsByRules, FeedsByWalk, FeedsRuled, FeedsWanted}
pub use Rattle.wax_exclude.specs.Feeds.{feed_of, request_feed, ruled_feed}
pub use Rattle.wax_exclude.specs.Law.{GivesLeast, GivesWanted, LeastWantsNothing, ListsExactly, ListsFew}
pub use Rattle.wax_exclude.specs.{Law.{WalkLaw, WantsNothing}, Leading.leading_of}
pub use Rattle.wax_exclude.specs.Marks.{covered_mark, glob_mark, not_mark}
pub use Rattle.wax_exclude.specs.Told.{Answering, AreWanted, FeedsAnswered, IsTold, KeepsAnswered, KeepsTold}
pub use Rattle.wax_exclude.specs.Told.{LeavesAnswered, OpensListed, ToldInPart, request_kept, ruled_kept}
pub use Rattle.wax_exclude.specs.Told.{walk_calls}
pub use Rattle.wax_exclude.specs.TreeRequests.{WantsUnfiltered, is_unfiltered, tree_request}
pub use Rattle.wax_exclude.specs.Prefix.{HasEmptyName, PrefixSplitsInto}
pub use Rattle.wax_exclude.specs.Premises.{BeginsWith, CanWalk, IsUnmeant, IsWellNamed}
pub use Rattle.wax_exclude.specs.GlobRequests.{AreOpened, AreRulesOf, ComesExcluding, ComesWanted, IsRuleOf}
pub use Rattle.wax_exclude.specs.GlobRequests.{KeepsWanted, CanBegin, GlobRequest, goes, is_beyond}
pub use Rattle.wax_exclude.specs.GlobRequests.{request_due, request_excluding, request_pending, request_walk}
pub use Rattle.wax_exclude.specs.GlobRequests.{walk_for}
pub use Rattle.wax_exclude.specs.Pruned.{ListsBy, MayOpen, MeansLonger, Pruning, by_components, by_matches}
pub use Rattle.wax_exclude.specs.RuledWalks.{ComesRuled, RuledWalk, WalkTakes, walk_course, with_rule}
pub use Rattle.wax_exclude.specs.Walked.{ExcludesBelow, glob_walk, wanted_entries, origin_walk}
pub use Rattle.wax_exclude.specs.WantedEntries.{IsExcludedBy, IsWantedEntry, Selects, SelectsWanted}
pub use Rattle.wax_exclude.specs.Wanted.{Filter, excludes, filter_mark, is_kept_entry, not_ignored, not_meant}
pub use Rattle.wax_filter.specs.Feeding.{AtMostCancels, ByEntry, ByItem, Feeds, NextFiltrate, OnlyCancels}
pub use Rattle.wax_filter.specs.{Feeding.entry_layer, Leaving.{MapsResidue, residue_item, shows_residue}}
pub use Rattle.wax_filter.specs.Separating.{Answers, AtFiltrate, AtResidue, CancelsBy, CancelsTree, LeavesOut}
pub use Rattle.wax_filter.specs.Separating.{LeavesOutNode, LeavesOutTree, MapsFiltrate, MapsLeftOut, RefersTo}
pub use Rattle.wax_filter.specs.Separating.{SaysOf, SeparatesBy, filtrate_of, separated_entry}
pub use Rattle.wax_filter.specs.Transposing.{Transposes, TransposesOk}
pub use Rattle.wax_filter.specs.declared.filter.separation.Separation.{Separation}
pub use Rattle.wax_filter.specs.declared.filter.separation.Separation.TheVariants.{Filtrate, Residue}
pub use Rattle.wax_filter.specs.declared.filter.tree_residue.TreeResidue.TheVariants.{Node, Tree}
pub use Rattle.wax_tree.specs.Laws.{leading_cancelling}
pub use Rattle.wax_tree.specs.Matches.{IsMatchedEntry, glob_facts, match_of, tree_entry}
pub use Rattle.wax_tree.specs.Programs.{any_mark, leading_mark}
pub use Rattle.wax_tree.specs.declared.glob_walk.entry.GlobEntry.{GlobEntry}
pub use Rattle.wax_tree.specs.declared.glob_walk.filter_any.FilterAny.{FilterAny}
pub use Rattle.wax_tree.specs.Begins.{Begins, BeginsAt, EndsWithin, FailsFrom, FailsNowhere, HasEnded}
pub use Rattle.wax_tree.specs.Begins.{IsPassed, LacksMemory, Origin, behavior_range, start_view}
pub use Rattle.wax_tree.specs.Depths.{HasBounds, IsUnbounded, IsUnboundedAt, behavior_at, greatest, least}
pub use Rattle.wax_tree.specs.{Depths.{no_bound, raised}, Lacking.{gives_at_most, tree_view}}
pub use Rattle.wax_tree.specs.{Prefix.{ArePlain, from_last}, WalkLaws.{cancel_law, comes_told}}
pub use Rattle.wax_tree.specs.Whole.{EntriesAre, plain_pending, whole, whole_along, yielded}
pub use Rattle.wax_tree.specs.declared.behavior.DepthBehavior.TheVariants.{MinMax, Unbounded}
pub use Rattle.wax_tree.specs.declared.behavior.WalkBehavior.{WalkBehavior}
pub use Rattle.wax_tree.specs.declared.steps.DepthRange.{DepthRange}
pub use Rattle.wax_walk.specs.Candidates.{Candidate, candidate_of, candidate_with, in_characters}
pub use Rattle.wax_walk.specs.Candidates.{of_candidate}
pub use Rattle.wax_walk.specs.Collected.{AreOfFolders, Yielded, HasFolder, IsCutShort, NoneLast, SpendsWithin}
pub use Rattle.wax_walk.specs.Collected.{Took, count_to_open}
pub use Rattle.wax_walk.specs.Entries.{answer_of, entry_texts, error_depth, error_kind, error_path, facts_of}
pub use Rattle.wax_walk.specs.Entries.{given_of, given_outcome, kind_of_fault}
pub use Rattle.wax_walk.specs.Forest.{Forest, Pending, filtered, filtered_pending, item, lists, nothing}
pub use Rattle.wax_walk.specs.Forest.{preorder}
pub use Rattle.wax_walk.specs.Given.{Facts, Given, Mark, alone, changed_by, combined_mark, cut_by, entry}
pub use Rattle.wax_walk.specs.Given.{fault, is_kept, kept, no_memory, with_tree}
pub use Rattle.wax_walk.specs.Left.{left_after, left_of, opened_items}
pub use Rattle.wax_walk.specs.Known.{KeepsKnown, KnownItem, KnownOutcome, StaysKnown}
pub use Rattle.wax_walk.specs.Laws.{closure_cancelling, closure_telling, nothing_known, ruled_cancelling}
pub use Rattle.wax_walk.specs.Laws.{ruled_telling, selected_cancelling, selected_telling}
pub use Rattle.wax_walk.specs.Opened.{items_listed, opened_by, opened_folders}
pub use Rattle.wax_walk.specs.Paths.{PathTexts, item_texts}
pub use Rattle.wax_walk.specs.{Pruned.{Opening, all_folders, selected_view, these_folders}, Ruled.ruled_view}
pub use Rattle.wax_walk.specs.{Said.{RuleStep, mark_of}, Says.{SaysByRule, closure_view}}
pub use Rattle.wax_walk.specs.View.{CancelStep, FeedStep, IsErrorAt, IsFolderAt, IsSeenAs, MayFail, Places}
pub use Rattle.wax_walk.specs.{View.{WalkView, is_above}, declared.entry.TreeEntry.TreeEntry}
pub use Rattle.wax_walk.specs.declared.error.FaultKind.TheVariants.{Budget}
pub use Rattle.wax_walk.specs.declared.error.WalkError.{WalkError}
pub use Rattle.wax_walk.specs.declared.iterator.EntryResidue.{EntryResidue}
pub use Rattle.wax_set.specs.Walks.{BeginsSet, SetBeginning, set_wants}
