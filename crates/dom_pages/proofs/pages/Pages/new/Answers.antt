use Rattle.std.proofs.Common.{tests, rules}
use Rattle.dom_pages.proofs.pages.Pages.new.Goals as goal

pub returns : goal.returns
returns g c = search (tests, rules)
