-- What a lawful directory shows is well named.
use Rattle.std.proofs.Common.{List, ℕ}
use Rattle.wax_directory.specs.Law.{Law}
use Rattle.wax_directory.specs.Shown.{Items, end, leaf, folder, sealed, misnamed, unread, not_text, Shown}
use Rattle.wax_directory.specs.Shown.{a_leaf, a_folder, a_sealed, missing, failing, join, ShowsIn, IsDistinct}
use Rattle.wax_exclude.specs.Premises.{ArePlainItems, IsPlainShown, IsWellNamed}

module _ (shows : List ℕ → Shown → Type 0)
    (inner : (path : List ℕ) (l : Items) → shows path (a_folder l) → ShowsIn shows path l) where
  plain_items : (path : List ℕ) (l : Items) → ShowsIn shows path l → ArePlainItems l
  plain_items path end h = tt
  plain_items path (leaf x link rest) h = (h.0, plain_items path rest h.2)
  plain_items path (folder x below rest) h = (
    h.0,
    plain_items (join path x) below (inner (join path x) below h.1),
    plain_items path rest h.2,
  )
  plain_items path (sealed x rest) h = (h.0, plain_items path rest h.2)
  plain_items path (misnamed x kind rest) h = plain_items path rest h.1
  plain_items path (unread rest) h = plain_items path rest h
  plain_items path (not_text rest) h = plain_items path rest h

  pub plain_shown : (path : List ℕ) (s : Shown) → shows path s → IsPlainShown s
  plain_shown path (a_leaf link) h = tt
  plain_shown path (a_folder l) h = plain_items path l (inner path l h)
  plain_shown path a_sealed h = tt
  plain_shown path missing h = tt
  plain_shown path failing h = tt

-- by the laws `inner` and `distinct` of a directory
pub well_named : {D C : Type 0} (law : Law D C) (d : D) (path : List ℕ) (s : Shown)
    → ((p : List ℕ) (l : Items) → law.shows d p (a_folder l) → ShowsIn (law.shows d) p l)
    → ((p : List ℕ) (t : Shown) → law.shows d p t → IsDistinct t) → law.shows d path s → IsWellNamed s
well_named law d path s inner distinct h =
    record { plain = plain_shown (law.shows d) inner path s h; distinct = distinct path s h }
