-- What is known of the pieces of tokens: which texts they take, which of them is chosen, what is captured.
use Rattle.std.specs.Prelude.{◌≡◌, ◌↔◌, ℕ, ◌+◌, ◌≤◌, Bool, true, false, ◌||◌, List, [], ◌∷◌, drop, Some}
use Rattle.std.specs.Prelude.{slice_get, ⊤}
use Rattle.wax_token.specs.{Cost.cost, Syntax.{Tree, Trees, none, more}}
use Rattle.wax_capture.specs.Captures.{MeansByWay, has_more, is_lazy, token_captures, token_skips}
use Rattle.wax_capture.specs.{Captures.tree_capture, declared.piece.Capture.Capture}
use Rattle.wax_capture.specs.declared.piece.Capture.TheVariants.{Nothing, Piece as WholePiece, AfterFirst}
use Rattle.wax_capture.specs.{declared.piece.Capture.TheVariants.UnlessSlash, declared.piece.Piece.Piece}
use Rattle.wax_capture.specs.{declared.piece.Ways.Ways, declared.piece.Ways.TheVariants.{Only, Each, Linked}}
use Rattle.wax_lengths.specs.{Forms.{TakenBy, form_size}, declared.form.Form.Form}

abbrev pub forms_of : Ways → List Form
forms_of (Only form) = form ∷ []
forms_of (Each forms) = forms.items
forms_of (Linked forms) = forms.value

-- the k-th form takes the text
abbrev pub WayIn : List Form → ℕ → List ℕ → Type 0
WayIn forms k x = (form : Form) × (slice_get forms k ≡ Some form) × TakenBy form x

abbrev pub WayOf : Piece → ℕ → List ℕ → Type 0
WayOf p k x = WayIn (forms_of p.ways) k x

-- what is captured of a piece, or no capture
abbrev pub captured_by : Capture → List ℕ → List (List ℕ)
captured_by Nothing x = []
captured_by WholePiece x = x ∷ []
captured_by AfterFirst x = drop 1 x ∷ []
captured_by UnlessSlash x = tree_capture false false x ∷ []

-- how many characters at the beginning of its piece aren't captured, if there are so many
abbrev pub skipped_by : Capture → ℕ
skipped_by Nothing = 0
skipped_by WholePiece = 0
skipped_by AfterFirst = 1
skipped_by UnlessSlash = 0

abbrev pub size_of : List Form → ℕ
size_of [] = 0
size_of (form ∷ forms) = form_size form + size_of forms

-- the piece of a token: the same ways, the same choice, the same capture, and a size within the cost
pub record IsPiece {A : Type 0} (t : Tree A) (before after : Bool) (p : Piece) : Type 0 where
  pub ways : (k : ℕ) (x : List ℕ) → MeansByWay t k before after x ↔ WayOf p k x
  pub lazy : p.is_lazy ≡ is_lazy t
  pub captures : (x : List ℕ) → captured_by p.capture x ≡ token_captures t before x
  pub skips : skipped_by p.capture ≡ token_skips t before
  pub few : size_of (forms_of p.ways) ≤ cost t

-- the pieces of tokens that stand one after another
abbrev pub ArePieces : {A : Type 0} → Trees A → Bool → Bool → List Piece → Type 0
ArePieces none before after [] = ⊤
ArePieces none before after (p ∷ ps) = ⊥
ArePieces (more t ts) before after [] = ⊥
ArePieces (more t ts) before after (p ∷ ps) =
    IsPiece t before (after || has_more ts) p × ArePieces ts true after ps
