use Rattle.std.proofs.Common.{tests, rules}
use Rattle.dom_c.proofs.status.status_of_own.Goals as goal

pub returns-in-NoSuchObject : goal.returns-in-NoSuchObject
returns-in-NoSuchObject c = search (tests, rules)

pub returns-in-Limit : goal.returns-in-Limit
returns-in-Limit c = search (tests, rules)

pub returns-in-InUse : goal.returns-in-InUse
returns-in-InUse c = search (tests, rules)

pub returns-in-LineTooLong : goal.returns-in-LineTooLong
returns-in-LineTooLong c = search (tests, rules)

pub returns-in-BadJson : goal.returns-in-BadJson
returns-in-BadJson c = search (tests, rules)

pub returns-in-BadCommand : goal.returns-in-BadCommand
returns-in-BadCommand c = search (tests, rules)

pub returns-in-BadArguments : goal.returns-in-BadArguments
returns-in-BadArguments c = search (tests, rules)
