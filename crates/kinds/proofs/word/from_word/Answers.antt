use Rattle.std.proofs.Common.{◌≡◌, sym, ◌∙◌, rules, tests}
use Rattle.std.proofs.lemmas.Iterator.{YieldsList-from_slice}
use Rattle.std.proofs.lemmas.Iterator.Search.{find_from_yields_List}
use Rattle.std.specs.Result.{result_ok}
use Rattle.std.specs.Str.{bytes_eq}
use Rattle.kinds.specs.Word.{named}
use Rattle.kinds.proofs.Words.{found}
use Rattle.kinds.proofs.word.from_word.Goals as goal

pub returns : goal.returns
returns g c =
    let W = g.W.Word in
    let word = c.args.word.now in
    let value : result_ok c.ok_or.result ≡ named W.text word W.values =
    sym c.ok_or.ensures.ok_part ∙ c.copied.ensures
    ∙ find_from_yields_List (λ x. bytes_eq word (W.text x)) _ _ c.find.result c.find.ensures.ran
    (YieldsList-from_slice W.values cc)
    (λ x b q k. search (rules, tests)) in
    found W.text W.values g.met.W.Word.distinct word c.ok_or.result value
