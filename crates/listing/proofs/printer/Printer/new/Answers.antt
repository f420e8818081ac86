use Rattle.std.proofs.Common.{rules}
use Rattle.listing.proofs.printer.Printer.new.Goals as goal

pub returns : goal.returns
returns g c = c.in_ok-vec.ensures.items_if_clones_equal (λ y h. search rules)
