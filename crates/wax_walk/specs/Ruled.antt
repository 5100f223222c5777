-- The view of a walk that is filtered by a rule.
use Rattle.std.specs.Prelude.{◌≡◌, ◌⊎◌, Bool, true, false, cond}
use Rattle.wax_walk.specs.{Candidates.{Candidate, of_candidate}, Course.{Ahead, AheadFiltered, IsNothing}}
use Rattle.wax_walk.specs.{Given.{Facts, Given, Mark, ToComeFiltered, is_cut, mark_by}, View.WalkView}

-- the mark is what the rule decides, and the item is cut by it
abbrev pub IsMarkBy : (Facts → Mark) → Given → Mark → Bool → Type 0
IsMarkBy rule x m cut = (m ≡ mark_by rule x) × (cut ≡ is_cut x m)

-- what may be ahead after a filter: nothing, if an allocation for the rule failed
abbrev pub AheadRuled : (Ahead → Type 0) → (Candidate → Mark) → Bool → Ahead → Type 0
AheadRuled inner rule true a = IsNothing a.below × IsNothing a.after
AheadRuled inner rule false a = AheadFiltered inner (IsMarkBy (of_candidate rule)) a

-- the view of the filtered walk; `lacked` says that an allocation for the rule failed, which ends the walk
abbrev pub ruled_view : {D : Type 0} → WalkView D → (Candidate → Mark) → Bool → WalkView D
ruled_view inner rule lacked = record inner {
  to_come = λ q. (lacked ≡ false) × ToComeFiltered inner.to_come (of_candidate rule) q;
  may_come = AheadRuled inner.may_come rule lacked;
  to_begin = cond lacked 0 inner.to_begin;
  listings_open = cond lacked 0 inner.listings_open;
  to_open = cond lacked 0 inner.to_open;
  may_fail_below = λ path depth. (lacked ≡ false) × inner.may_fail_below path depth;
  has_ended = (lacked ≡ true) ⊎ inner.has_ended;
  is_idle = (lacked ≡ true) ⊎ inner.is_idle;
}
