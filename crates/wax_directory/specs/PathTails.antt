-- What is in a tree that is made from a list of paths.
use Rattle.std.specs.Prelude.{◌≡◌, ℕ, Bool, true, false, not, cond, MatchBool, List, [], ◌∷◌, ◌++◌, map}
use Rattle.std.specs.{Prelude.{filter, Option, Some, None}, List.{list_any, filter_map}, Str.bytes_eq}
use Rattle.wax_directory.specs.declared.directory.FileType.{FileType}
use Rattle.wax_directory.specs.declared.directory.FileType.TheVariants.{File, Folder}
use Rattle.wax_directory.specs.Shown.{Items, Shown, a_leaf, a_folder, missing, Listed, named, listing}
use Rattle.wax_directory.specs.Names.{is_rooted, names_in_path}
use Rattle.wax_query.specs.Below.{ends_open}

-- the part of a path below some folder: its names, and whether the path is a folder's
pub data PathTail : Type 0 where
  tail : List (List ℕ) → Bool → PathTail

-- the tail leads to a folder, or into one
abbrev pub leads_on : PathTail → Bool
leads_on (tail [] is_folder) = is_folder
leads_on (tail (x ∷ names) is_folder) = true

abbrev pub first_name : PathTail → Option (List ℕ)
first_name (tail [] is_folder) = None
first_name (tail (x ∷ names) is_folder) = Some x

-- what is left of the tail after its first name, if that is x
abbrev pub rest_after : List ℕ → PathTail → Option PathTail
rest_after x (tail [] is_folder) = None
rest_after x (tail (y ∷ names) is_folder) = cond (bytes_eq y x) (Some (tail names is_folder)) None

-- what is left of the tails whose first name is x
abbrev pub below_name : List ℕ → List PathTail → List PathTail
below_name x tails = filter_map (rest_after x) tails

-- what is left of the tails that begin with these names
abbrev pub rests : List (List ℕ) → List PathTail → List PathTail
rests [] tails = tails
rests (x ∷ names) tails = rests names (below_name x tails)

abbrev pub holds_name : List ℕ → List (List ℕ) → Bool
holds_name x names = list_any (λ y. bytes_eq y x) names

-- the names, and x if it isn't among them
abbrev pub added : List (List ℕ) → List ℕ → List (List ℕ)
added names x = cond (holds_name x names) names (names ++ x ∷ [])

-- the names, and those of `more` that are new, in order
abbrev pub with_new : List (List ℕ) → List (List ℕ) → List (List ℕ)
with_new names [] = names
with_new names (x ∷ more) = with_new (added names x) more

-- the first names of the tails, each once, in order of first appearance
abbrev pub names_by : List PathTail → List (List ℕ)
names_by tails = with_new [] (filter_map first_name tails)

-- what is where the tails begin: a folder if one of them leads to a folder or into one, else a file
abbrev pub kind_by : List PathTail → FileType
kind_by tails = cond (list_any leads_on tails) Folder File

-- the listing of the folder where the tails begin
abbrev pub listing_by : List PathTail → List Listed
listing_by tails = map (λ x. named x (kind_by (below_name x tails))) (names_by tails)

-- a folder is shown, with the listing of the tails
abbrev pub HoldsBy : List PathTail → Shown → Type 0
HoldsBy tails s = (l : Items) × (s ≡ a_folder l) × (listing l ≡ listing_by tails)

-- what is shown where the tails begin: nothing if there are none, a folder if one leads on, else a file
abbrev pub StandsBy : List PathTail → Shown → Type 0
StandsBy [] s = s ≡ missing
StandsBy (r ∷ tails) s = MatchBool (list_any leads_on (r ∷ tails)) (HoldsBy (r ∷ tails) s)
    (s ≡ a_leaf false)

-- for `true`, the text starts at the root; for `false`, it starts at the working folder
abbrev pub starts_at : Bool → List ℕ → Bool
starts_at true text = is_rooted text
starts_at false text = not (is_rooted text)

-- the text as a path: that of a folder if it is empty or ends with `/`, else that of a file
abbrev pub tail_of : List ℕ → PathTail
tail_of text = tail (names_in_path text) (ends_open text)

-- the tails from the root, or else from the working folder: that folder, and the texts that start there
abbrev pub tails_from : Bool → List (List ℕ) → List PathTail
tails_from at_root texts = tail [] true ∷ map tail_of (filter (starts_at at_root) texts)

-- what is left of the tails that begin with the names of a path, where the path starts
abbrev pub tails_to : List ℕ → List (List ℕ) → List PathTail
tails_to path texts = rests (names_in_path path) (tails_from (is_rooted path) texts)
