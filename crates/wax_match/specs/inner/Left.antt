-- What is left of patterns while they are written into one program.
use Rattle.std.specs.Prelude.{◌≡◌, ◌++◌, ◌+◌, ◌<◌, ◌≤◌, ℕ, true, false, List, [], Contains, chars, length}
use Rattle.std.specs.{Prelude.{sum_by, take}, List.slice_index_or}
use Rattle.wax_match.specs.declared.encode.left.Gap.{Gap}
use Rattle.wax_match.specs.declared.encode.left.Gap.TheVariants.{Nothing, Star, Folders, Below, Anything}
use Rattle.wax_match.specs.declared.encode.left.Lead.{Lead}
use Rattle.wax_match.specs.declared.encode.left.Lead.TheVariants.{Letters, Wild, Token}
use Rattle.wax_match.specs.{declared.encode.left.Left.Left, inner.LeadCode.lead_code}
use Rattle.wax_match.specs.inner.LeftCost.{left_cost}
use Rattle.wax_token.specs.{Meaning.{HasNoSlash, Means, MeansEach, TreeMeans}, Words.trees}

-- the same texts
pub record AreSame (P Q : List ℕ → Type 0) : Type 0 where
  pub to : (s : List ℕ) → P s → Q s
  pub from : (s : List ℕ) → Q s → P s

-- one text, and then another
abbrev pub Joined : (List ℕ → Type 0) → (List ℕ → Type 0) → List ℕ → Type 0
Joined P Q s = (x : List ℕ) × (y : List ℕ) × (s ≡ x ++ y) × P x × Q y

abbrev pub GapMeans : Gap → List ℕ → Type 0
GapMeans Nothing s = s ≡ []
GapMeans Star s = HasNoSlash s
GapMeans Folders s = TreeMeans false true false s
GapMeans Below s = TreeMeans true false false s
GapMeans Anything s = TreeMeans false false false s

-- the characters of a text, and then a wildcard
pub record SpeltMeans (text : List ℕ) (gap : Gap) (s : List ℕ) : Type 0 where
  pub taken : List ℕ
  pub splits : s ≡ chars text ++ taken
  pub means : GapMeans gap taken

pub record LeftMeans (l : Left) (s : List ℕ) : Type 0 where
  pub front : List ℕ
  pub back : List ℕ
  pub splits : s ≡ front ++ back
  pub spelt : SpeltMeans l.text.now l.gap front
  pub means : MeansEach (trees l.tokens.now) l.before false back

abbrev pub LeadMeans : Lead → List ℕ → Type 0
LeadMeans (Letters text) s = s ≡ chars text.now
LeadMeans (Wild gap) s = GapMeans gap s
LeadMeans (Token token sides) s = Means token.now sides.before sides.after s

-- the first one is the lead, and then the second, which together cost no more
pub record IsAfter (lead : Lead) (l after : Left) : Type 0 where
  pub number : after.number ≡ l.number
  pub fits : left_cost after + length (lead_code lead) ≤ left_cost l
  pub means : AreSame (LeftMeans l) (Joined (LeadMeans lead) (LeftMeans after))

-- the wildcard, and then the end of the number
abbrev pub EndMeans : ℕ → Gap → ℕ → List ℕ → Type 0
EndMeans number gap k s = (k ≡ number) × GapMeans gap s

-- it has the number, and means the text
abbrev pub OneLeftMeans : Left → ℕ → List ℕ → Type 0
OneLeftMeans l k s = (k ≡ l.number) × LeftMeans l s

-- one of them
abbrev pub SomeLeftMeans : List Left → ℕ → List ℕ → Type 0
SomeLeftMeans ls k s = (l : Left) × Contains ls l × OneLeftMeans l k s

-- one of those from an index on, and before another
abbrev pub MeansBetween : List Left → ℕ → ℕ → ℕ → List ℕ → Type 0
MeansBetween ls i j k s =
    (n : ℕ) × (l : Left) × (i ≤ n) × (n < j) × (slice_index_or ls n l ≡ l) × OneLeftMeans l k s

-- the one at the index is the lead, and then the other
abbrev pub IsAfterAt : Lead → List Left → ℕ → Left → Type 0
IsAfterAt lead ls i after = (l : Left) → slice_index_or ls i l ≡ l → IsAfter lead l after

-- those from an index on are the lead, and then one of the others, which together cost no more
pub record IsLed (lead : Lead) (ls : List Left) (start : ℕ) (led : List Left) : Type 0 where
  pub some : 1 ≤ length led
  pub within : start + length led ≤ length ls
  pub fits : sum_by left_cost led + length (lead_code lead) + sum_by left_cost (take start ls)
      ≤ sum_by left_cost (take (start + length led) ls)
  pub means : (k : ℕ)
      → AreSame (MeansBetween ls start (start + length led) k) (Joined (LeadMeans lead) (SomeLeftMeans led k))
