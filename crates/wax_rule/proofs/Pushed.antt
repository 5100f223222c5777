-- What was pushed, and what is still to be.
use Rattle.std.proofs.Common.{◌≡◌, ◌∙◌, ◌++◌, ◌∷◌, List, ℕ, [], ap, sym, append_assoc, append-nil}
use Rattle.std.proofs.Common.{encode_utf8_all, map}
use Rattle.std.specs.{Prelude.{Result, Ok, Err, OnOk, is_ok, if◌then◌else◌}, Char.encode_utf8}
use Rattle.wax_query.specs.Labels.{Label}
use Rattle.wax_rule.specs.Drawn.{drawn_character, label_line, label_lines}

-- after the first character c is drawn
pub drawn_past : (c d : ℕ) (r s old new all : List ℕ) → r ≡ c ∷ s → d ≡ drawn_character c
    → new ≡ old ++ encode_utf8 d → old ++ encode_utf8_all (map drawn_character r) ≡ all
    → new ++ encode_utf8_all (map drawn_character s) ≡ all
drawn_past c d r s old new all e f g h =
    ap (λ z. z ++ encode_utf8_all (map drawn_character s)) (g ∙ ap (λ z. old ++ encode_utf8 z) f)
    ∙ append_assoc old (encode_utf8 (drawn_character c)) (encode_utf8_all (map drawn_character s))
    ∙ sym (ap (λ z. old ++ encode_utf8_all (map drawn_character z)) e) ∙ h

pub feed_pushed : {T E : Type 0} (r : Result T E) (old new all : List ℕ)
    → new ≡ (if is_ok r then old ++ 10 ∷ [] else old) → old ≡ all → OnOk r (new ≡ all ++ 10 ∷ [])
feed_pushed (Ok x) old new all e f = e ∙ ap (λ v. v ++ 10 ∷ []) f
feed_pushed (Err x) old new all e f = tt

lines_more : (e : List ℕ) (ls : List Label) (m : Label)
    → label_lines e (ls ++ m ∷ []) ≡ label_lines e ls ++ label_line e m
lines_more e [] m = append-nil (label_line e m)
lines_more e (l ∷ ls) m =
    ap (λ v. label_line e l ++ v) (lines_more e ls m)
    ∙ sym (append_assoc (label_line e l) (label_lines e ls) (label_line e m))

-- after the line of one more label
pub label_more : (e : List ℕ) (ls ms : List Label) (m : Label) (first old new : List ℕ) → ms ≡ ls ++ m ∷ []
    → new ≡ old ++ label_line e m → old ≡ first ++ label_lines e ls → new ≡ first ++ label_lines e ms
label_more e ls ms m first old new f g h =
    g ∙ ap (λ v. v ++ label_line e m) h ∙ append_assoc first (label_lines e ls) (label_line e m)
    ∙ sym (ap (λ v. first ++ v) (ap (λ v. label_lines e v) f ∙ lines_more e ls m))
