use Rattle.std.proofs.Common.{◌≡◌, subst, sym, string_bytes, rules, encode_utf8}
use Rattle.std.proofs.lemmas.Str.{IsUtf8-string_bytes}
use Rattle.wax_token.specs.Syntax.{class}
use Rattle.wax_facts.specs.InvariantText.{LeafText}
use Rattle.wax_facts.proofs.TextSteps.{char_text}
use Rattle.wax_facts.proofs.invariant.text_of_class.Goals as goal

pub returns : goal.returns
returns c =
    let e : string_bytes c.push.new.self ≡ encode_utf8 c.in-Some.c = search rules in
    subst (LeafText (class c.args.set.now.0 c.args.set.now.1)) (sym (char_text c.in-Some.c
    (string_bytes c.push.new.self) (IsUtf8-string_bytes c.push.new.self) e)) c.in-Some.ensures
