-- What is kept of the walk of a set.
use Rattle.std.proofs.Common.{◌≡◌, ◌⊎◌, Bool, false, true, List, [], ◌∷◌, inl, inr, refl, ℕ}
use Rattle.std.proofs.lemmas.List.Elements.{All-nil}
use Rattle.std.specs.Prelude.{◌↔◌, chars}
use Rattle.wax.specs.{GlobWalks.{origin_from, request_from}, Language.{Span, Tree}, Patterns.IsAnyOf}
use Rattle.wax.specs.Walks.{alone, ArePlain, BeginsSet, behavior_at, behavior_range, by_matches, CanBegin}
use Rattle.wax.specs.Walks.{ComesWanted, DepthRange, entry, fault, Given, GlobRequest, goes, IsExcludedBy}
use Rattle.wax.specs.Walks.{IsWantedEntry, kept, KeepsWanted, Law, no_memory, Selects, SelectsWanted}
use Rattle.wax.specs.Walks.{set_wants, Shown, Unbounded, WalkView, with_tree}
use Rattle.wax_test_uses.specs.Sets.{IsMatchedEntryOf, KeepsMatches}

selects_alike : {A : Type 0} {P Q : A → Type 0} → ((x : A) → P x ↔ Q x) → (xs ys : List A) → Selects P xs ys
    → Selects Q xs ys
selects_alike same [] ys h = h
selects_alike same (x ∷ xs) ys (inl h) =
    inl ((same x).0 h.0, (h.1.0, h.1.1, selects_alike same xs h.1.0 h.1.2))
selects_alike same (x ∷ xs) ys (inr h) = inr ((λ q. h.0 ((same x).1 q)), selects_alike same xs ys h.1)

-- wanted of a set is what one of its patterns means
wanted_of_set : {P : Type 0} (SpellsTree : P → Tree Span → Type 0) (patterns : List P) (t : Tree Span)
    → IsAnyOf SpellsTree patterns t → (rooted : Bool) (range : DepthRange) (x : Given)
    → IsWantedEntry (record { rooted = rooted; glob = t; filters = [] }) range x
    ↔ IsMatchedEntryOf SpellsTree patterns range x
wanted_of_set SpellsTree patterns t is rooted range (entry kept f) = (
  (λ h. (h.0, h.1, (is.means (chars f.candidate)).0 h.2)),
  (λ h. (
    h.0,
    h.1,
    (is.means (chars f.candidate)).1 h.2,
    All-nil (λ e. ¬ (IsExcludedBy e (chars f.candidate))),
  )),
)
wanted_of_set SpellsTree patterns t is rooted range (entry alone f) = ((λ h. h), (λ h. h))
wanted_of_set SpellsTree patterns t is rooted range (entry with_tree f) = ((λ h. h), (λ h. h))
wanted_of_set SpellsTree patterns t is rooted range (fault kind path depth) = ((λ h. h), (λ h. h))
wanted_of_set SpellsTree patterns t is rooted range no_memory = ((λ h. h), (λ h. h))

origin_begins : (rooted : Bool) (names : List (List ℕ))
    → ((origin_from [] rooted names).path ≡ []) ⊎ ((origin_from [] rooted names).path ≡ 47 ∷ [])
origin_begins false names = inl refl
origin_begins true names = inr refl

plain_names : (rooted : Bool) (names : List (List ℕ))
    → ArePlain (origin_from [] rooted names).names → ArePlain names
plain_names false names h = h
plain_names true names h = h

pub keeps_matches : {P D C : Type 0} (SpellsTree : P → Tree Span → Type 0) (patterns : List P) (law : Law D C)
    (d new : D) (t : Tree Span) (view : WalkView D) (ys : List Given) → IsAnyOf SpellsTree patterns t
    → BeginsSet t law d [] (behavior_range (behavior_at Unbounded)) view → SelectsWanted
    → ((over : D) (request : GlobRequest) (s : Shown) (listed : List (List ℕ))
    → ComesWanted law over request view
    → CanBegin request → law.shows over request.origin.path s → law.tells over listed
    → KeepsWanted (law.tells new) request s listed ys)
    → KeepsMatches SpellsTree patterns law d new ys
keeps_matches SpellsTree patterns law d new t view ys is begins selects keeps =
    let b = begins.begins in
    let request = request_from by_matches (set_wants b []) [] (behavior_range (behavior_at Unbounded))
    begins.depth b.names in
    record {
      request = request;
      begins = origin_begins b.rooted b.names;
      asked = refl;
      matched = λ s. selects_alike (wanted_of_set SpellsTree patterns t is b.rooted request.asked) _ _
          (selects request.wanted request.asked request.origin s);
      keeps = λ plain s listed shows tells. keeps d request s listed (begins.comes.comes plain)
          (goes (begins.can [] (plain_names b.rooted b.names plain))) shows tells;
    }
