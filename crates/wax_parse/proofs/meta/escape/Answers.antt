use Rattle.std.proofs.Common.{true≢false, ◌≡◌, ◌∙◌, false, sym, chars, string_bytes}
use Rattle.wax_parse.proofs.{Escaped.{escaped, nothing_escaped}, Meant.means_only, EscapedTrees.spells}
use Rattle.wax_parse.proofs.meta.escape.Goals as goal

pub returns : goal.returns
returns c =
    let exact : chars (string_bytes c.in_ok-escaped.escaped) ≡ escaped (chars c.args.text.now) =
    c.in_ok-escaped.ensures in
    let has = sym c.has_meta_character.ensures ∙ c.if-not-has_meta_character.false in
    record {
      exact = exact;
      means = λ t r. (means_only _ _ t exact r).1 false false;
      borrowed = λ e. absurd (true≢false (sym has ∙ e));
      spells = ((λ h. (means_only _ _ h.0 exact h.1).0), spells _ _ exact);
    }

pub returns-then-not-has_meta_character : goal.returns-then-not-has_meta_character
returns-then-not-has_meta_character c =
    let exact : chars c.args.text.now ≡ escaped (chars c.args.text.now) =
    nothing_escaped _ (sym c.has_meta_character.ensures ∙ c.if-not-has_meta_character.true) in
    record {
      exact = exact;
      means = λ t r. (means_only _ _ t exact r).1 false false;
      borrowed = λ e. tt;
      spells = ((λ h. (means_only _ _ h.0 exact h.1).0), spells _ _ exact);
    }
