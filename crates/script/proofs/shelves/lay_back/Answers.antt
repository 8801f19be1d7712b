use Rattle.register.specs.Calls.{line_handle}
use Rattle.script.proofs.Carrying.{stows-back}
use Rattle.script.proofs.shelves.lay_back.Goals as goal

pub unwrap-requires : goal.unwrap-requires
unwrap-requires c = stows-back c.args.register.now c.stow.new.self (line_handle c.args.line) c.args.shelf c.stow.result c.requires c.stow.ensures.told
