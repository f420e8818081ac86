use Rattle.std.proofs.Common.{◌≡◌, ◌++◌, OnOk, ap, sym, refl, ◌∙◌, rules}
use Rattle.std.specs.Option.{option_to_list}
use Rattle.std.proofs.lemmas.Result.{IfOk-at_ok}
use Rattle.std.proofs.lemmas.Iterator.Adapters.{fact_from_extend, YieldsList-from_once}
use Rattle.std.proofs.lemmas.List.Folds.{map_fixed}
use Rattle.printing.specs.declared.open.Open.{Open}
use Rattle.printing.proofs.open.push_open.Goals as goal

pub returns : goal.returns
returns c =
    let old = c.args.parents.now.items in
    let h : OnOk c.extend.result (c.extend.new.self.items ≡ old ++ option_to_list c.args.parent) =
    fact_from_extend {all = option_to_list c.args.parent} (λ (x : Open). x) c.extend.result c.extend.ensures.ran
    (λ it b. YieldsList-from_once _ (search rules)) (λ xs e h. h.0 ∙ ap (λ l. old ++ l) (sym (map_fixed (λ (x : Open). x) xs (λ k d lt. refl)) ∙ e)) in
    IfOk-at_ok _ c.in_ok-extend.was h
