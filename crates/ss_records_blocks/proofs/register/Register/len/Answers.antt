use Rattle.std.proofs.Common.{length, sym, ap, ◌∙◌}
use Rattle.ss_records_blocks.specs.Pages.{Listed, entry}
use Rattle.ss_records_blocks.proofs.Paging.{upto_length}
use Rattle.ss_records_blocks.proofs.register.Register.len.Goals as goal

pub returns : goal.returns
returns c = sym (upto_length (entry c.self.inside.earlier c.self.inside.current c.self.inside.start) c.self.inside.issued) ∙ ap (λ (w : Listed). length w.places) c.self.view_is
