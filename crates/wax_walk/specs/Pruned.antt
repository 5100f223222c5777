-- The view of a walk that opens only some folders.
use Rattle.std.specs.Prelude.{◌≡◌, Bool, false, ◌&&◌, not, if◌then◌else◌}
use Rattle.wax_walk.specs.Candidates.{Candidate, candidate_of}
use Rattle.wax_walk.specs.Course.{AheadFiltered, Course, filtered_course}
use Rattle.wax_walk.specs.Forest.{Forest, Pending, filtered, filtered_pending}
use Rattle.wax_walk.specs.{Given.{Facts, Given, Mark, alone, entry, fault, kept, no_memory}, Ruled.ruled_view}
use Rattle.wax_walk.specs.View.{WalkView, is_folder_kind}

-- the item is a folder that isn't opened
abbrev pub is_closed : (Facts → Bool) → Given → Bool
is_closed opens (entry m f) = not (opens f) && is_folder_kind f.kind
is_closed opens (fault kind path depth) = false
is_closed opens no_memory = false

abbrev pub itself : Given → Given
itself x = x

-- without what is below the folders that aren't opened
abbrev pub pruned : (Facts → Bool) → Forest Given → Forest Given
pruned opens f = filtered itself (is_closed opens) f

abbrev pub pruned_pending : (Facts → Bool) → Pending Given → Pending Given
pruned_pending opens p = filtered_pending itself (is_closed opens) p

abbrev pub pruned_course : (Facts → Bool) → Course → Course
pruned_course opens c = filtered_course itself (is_closed opens) c

-- the folders that a walk opens: all, or only these
pub data Opening : Type 0 where
  all_folders : Opening
  these_folders : (Facts → Bool) → Opening

abbrev pub opened_forest : Opening → Forest Given → Forest Given
opened_forest all_folders f = f
opened_forest (these_folders opens) f = pruned opens f

abbrev pub opened_course : Opening → Course → Course
opened_course all_folders c = c
opened_course (these_folders opens) c = pruned_course opens c

-- the item is kept as it is, and is cut if it is a folder that isn't opened
abbrev pub IsPrunedBy : (Facts → Bool) → Given → Mark → Bool → Type 0
IsPrunedBy opens x m cut = (m ≡ kept) × (cut ≡ is_closed opens x)

-- the folders that are opened, by their candidates
abbrev pub opens_by : (Candidate → Bool) → Facts → Bool
opens_by goes_on f = goes_on (candidate_of f)

-- the view of the walk that opens only these folders
abbrev pub pruned_view : {D : Type 0} → WalkView D → (Facts → Bool) → WalkView D
pruned_view inner opens = record inner {
  to_come = λ q. (p : Pending Given) × inner.to_come p × (q ≡ pruned_pending opens p);
  may_come = AheadFiltered inner.may_come (IsPrunedBy opens);
  may_open = λ f. inner.may_open f && opens f;
}

-- an entry that isn't kept is excluded by itself
abbrev pub keep_mark : (Candidate → Bool) → Candidate → Mark
keep_mark keeps c = if keeps c then kept else alone

-- the view of the walk that keeps only these entries and opens only these folders; `lacked` says that an
-- allocation for that failed, which ends the walk
abbrev pub selected_view : {D : Type 0} → WalkView D → (Candidate → Bool) → (Candidate → Bool) → Bool
    → WalkView D
selected_view inner keeps goes_on lacked =
    pruned_view (ruled_view inner (keep_mark keeps) lacked) (opens_by goes_on)
