use Rattle.std.proofs.Common.{chars, string_bytes, length, slice_index, sym, subst, ◌≡◌, ◌<◌, ◌∙◌}
use Rattle.std.proofs.{lemmas.List.get_or_default, lemmas.Result.IfOk-weaker}
use Rattle.std.proofs.lemmas.Str.{IsUtf8-string_bytes, scalars-chars}
use Rattle.wax_compare.specs.{inner.ReadBack.{AreEarlier, IsReadBack}, inner.Searching.readings}
use Rattle.wax_compare.proofs.ReadingBack.{answer_text, are_earlier, short_text}
use Rattle.wax_compare.proofs.finding.text_at.Goals as goal

pub text_to-requires : goal.text_to-requires
text_to-requires c = record {
  within = subst (λ z. c.args.at < length z) (sym c.deref.ensures.value) c.requires.at;
  earlier = subst AreEarlier (sym c.deref.ensures.value) (are_earlier (readings c.args.first.now.0
      c.args.second.now.0 c.args.search.now) c.args.pairs.now.reached.items c.requires.held.pairs);
}

pub returns-clause-shortest : goal.returns-clause-shortest
returns-clause-shortest c = IfOk-weaker c.text_to.result _ _ (λ text told.
    (let code = c.args.first.now.0 in
    let other = c.args.second.now.0 in
    let s = c.args.search.now in
    let reached = c.args.pairs.now.reached.items in
    let t = chars (string_bytes text) in
    let last = slice_index s.letters.items c.args.number in
    let is : c.index.result.now ≡ last = c.index.ensures
    ∙ get_or_default s.letters.items c.args.number c.index.result.now 0 c.requires.number in
    let read : IsReadBack reached c.args.at last t = subst (λ z. IsReadBack reached c.args.at z t) is (subst
    (λ z. IsReadBack z c.args.at c.index.result.now t) c.deref.ensures.value told) in
    answer_text code other s reached c.args.at c.requires.held c.requires.at last c.requires.ends t
    (scalars-chars (string_bytes text) (IsUtf8-string_bytes text)) read)) c.text_to.ensures

pub returns-clause-short : goal.returns-clause-short
returns-clause-short c = IfOk-weaker c.text_to.result _ _ (λ text told.
    (let s = c.args.search.now in
    let reached = c.args.pairs.now.reached.items in
    let t = chars (string_bytes text) in
    let last = slice_index s.letters.items c.args.number in
    let is : c.index.result.now ≡ last = c.index.ensures
    ∙ get_or_default s.letters.items c.args.number c.index.result.now 0 c.requires.number in
    let read : IsReadBack reached c.args.at last t = subst (λ z. IsReadBack reached c.args.at z t) is (subst
    (λ z. IsReadBack z c.args.at c.index.result.now t) c.deref.ensures.value told) in
    short_text c.args.first.now.0 c.args.second.now.0 s reached c.args.at c.requires.held c.requires.at last
    c.requires.ends t read)) c.text_to.ensures
