-- The lines of an ignore list that were read, and the first that isn't.
use Rattle.std.proofs.Common.{◌≡◌, ◌∙◌, ◌<◌, ◌≤◌, ◌+◌, ◌++◌, ◌∷◌, ℕ, List, [], ap, drop, get_or, length, map}
use Rattle.std.proofs.Common.{refl, subst, sym, take}
use Rattle.std.proofs.lemmas.List.{map-append, take_more, drop_more, take_all, take-append-drop}
use Rattle.std.specs.List.{AllZip}
use Rattle.wax_directory.specs.Law.{Law}
use Rattle.wax_exclude.specs.Lines.{Written, written_lines, written_of}
use Rattle.wax_exclude.specs.{declared.lines.WrittenLine.WrittenLine, Ignored.Line}
use Rattle.wax_token.specs.Reads.{Span}
use Rattle.wax_tree.specs.{Begins.{Begins, behavior_range}, declared.behavior.WalkBehavior.WalkBehavior}
use Rattle.wax_walk.specs.View.{WalkView}
use Rattle.wax.specs.Ignoring.{IsFirstUnread, IsNoList, IsReadAs, IsUnread, refused_at}
use Rattle.wax_rule.specs.declared.error.build_error.BuildError.{BuildError}
use Rattle.wax_rule.specs.declared.error.build_error.BuildError.TheVariants.{Parse, Rule, Compile, Memory}

-- ---- lines that are read

-- what is written is read as these lines, in order
abbrev pub AreRead : List Written → List (Line Span) → Type 0
AreRead written lines = AllZip IsReadAs written lines

zipped_more : (ws : List Written) (lines : List (Line Span)) (w : Written) (line : Line Span)
    → AreRead ws lines → IsReadAs w line → AreRead (ws ++ w ∷ []) (lines ++ line ∷ [])
zipped_more [] [] w line h k = (k, tt)
zipped_more [] (l ∷ lines) w line h k = absurd h
zipped_more (v ∷ ws) [] w line h k = absurd h
zipped_more (v ∷ ws) (l ∷ lines) w line h k = (h.0, zipped_more ws lines w line h.1 k)

-- the lines before the one at a place, and that one
module _ (all : List WrittenLine) (i : ℕ) (x : WrittenLine) (in' : i < length all) where
  abbrev line : WrittenLine
  line = get_or all i x

  pub next_read : (lines lines' : List (Line Span)) (l : Line Span) → lines' ≡ lines ++ l ∷ []
      → AreRead (map written_of (take i all)) lines → IsReadAs (written_of line) l
      → AreRead (map written_of (take (i + 1) all)) lines'
  next_read lines lines' l grown read k =
      let same : map written_of (take i all) ++ written_of line ∷ [] ≡ map written_of (take (i + 1) all) =
      sym (map-append written_of (take i all) (line ∷ []))
      ∙ ap (map written_of) (sym (take_more all i x in')) in
      subst (AreRead (map written_of (take (i + 1) all))) (sym grown)
      (subst (λ ws. AreRead ws (lines ++ l ∷ [])) same
      (zipped_more (map written_of (take i all)) lines (written_of line) l read k))

  split : map written_of all ≡ map written_of (take i all) ++ written_of line
      ∷ map written_of (drop (i + 1) all)
  split =
      ap (map written_of) (sym (take-append-drop i all) ∙ ap (λ r. take i all ++ r) (drop_more all i x in'))
      ∙ map-append written_of (take i all) (line ∷ drop (i + 1) all)

  module _ (text : List ℕ) (lines : List (Line Span)) (whole : map written_of all ≡ written_lines text)
      (read : AreRead (map written_of (take i all)) lines) where
    first : (e : BuildError) → ¬ (e ≡ Memory) → IsUnread (written_of line) e
        → IsFirstUnread text line.number e
    first e n u = record {
      before = map written_of (take i all);
      lines = lines;
      each = read;
      line = written_of line;
      number_is = refl;
      unread = u;
      no_want = n;
      after = map written_of (drop (i + 1) all);
      all = sym whole ∙ split;
    }

    pub first_unread : (e : BuildError) → IsUnread (written_of line) e
        → IsNoList text (refused_at line.number e)
    first_unread (Parse place) u = first (Parse place) (λ e. (cc)) u
    first_unread (Rule error) u = first (Rule error) (λ e. (cc)) u
    first_unread (Compile error) u = first (Compile error) (λ e. (cc)) u
    first_unread Memory u = tt

pub none_read : (lines : List (Line Span)) → lines ≡ [] → AreRead [] lines
none_read lines e = subst (AreRead []) (sym e) tt

-- all lines were read
pub all_read : (text : List ℕ) (all : List WrittenLine) (i : ℕ) (lines lines' : List (Line Span))
    → map written_of all ≡ written_lines text → length all ≤ i → lines' ≡ lines →
    AreRead (map written_of (take i all)) lines → AreRead (written_lines text) lines'
all_read text all i lines lines' whole over same read =
    subst (AreRead (written_lines text)) (sym same)
    (subst (λ ws. AreRead ws lines) (ap (map written_of) (take_all i all over) ∙ whole) read)

-- ---- walks

pub begins_so : {D C : Type 0} (law : Law D C) (d : D) (start : List ℕ) (b behavior : WalkBehavior)
    (view : WalkView D) → b ≡ behavior →
    Begins law d start (behavior_range b) view → Begins law d start (behavior_range behavior) view
begins_so law d start b behavior view same begins =
    subst (λ z. Begins law d start (behavior_range z) view) same begins
