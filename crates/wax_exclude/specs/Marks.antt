-- How a glob's walk and an excluded pattern mark entries.
use Rattle.std.specs.Prelude.{Bool, false, if◌then◌else◌}
use Rattle.wax_facts.specs.Alternatives.{alternatives}
use Rattle.wax_token.specs.{Decided.means_test, Syntax.Tree}
use Rattle.wax_walk.specs.{Candidates.Candidate, Given.{Mark, kept, alone, with_tree}}
use Rattle.wax_exclude.specs.{Covers.covers_test, Leading.{leading_of, lead_test}}

-- an entry is excluded with everything below it if the leading components don't lead to it, and else by
-- itself if it doesn't match
abbrev pub led_mark : Bool → Bool → Mark
led_mark is_led is_matched = if is_led then (if is_matched then kept else alone) else with_tree

-- an entry is excluded with everything below it if it is covered, and else by itself if it matches
abbrev pub covered_mark : Bool → Bool → Mark
covered_mark is_covered is_matched = if is_covered then with_tree else (if is_matched then alone else kept)

-- the mark by the walk of a glob, from the root or not
abbrev pub glob_mark : {A : Type 0} → Bool → Tree A → Candidate → Mark
glob_mark rooted t c = led_mark (lead_test (leading_of rooted t) c.names) (means_test t false false c.text)

-- the mark by an excluded pattern
abbrev pub not_mark : {A : Type 0} → Tree A → Candidate → Mark
not_mark t c = covered_mark (covers_test (alternatives t) c) (means_test t false false c.text)
