use Rattle.std.proofs.{Common.{encode_utf8_all, sym, ap, ◌∙◌}, lemmas.Str.encodes-chars}
use Rattle.wax_query.proofs.matching.candidate.CandidatePathAsStr.as_str.Goals as goal

pub returns : goal.returns
returns c = sym (encodes-chars c.as_str.result.now c.as_str.utf8) ∙ ap encode_utf8_all c.as_str.ensures
