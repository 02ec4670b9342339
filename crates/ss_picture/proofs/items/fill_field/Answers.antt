use Rattle.ss_picture.proofs.items.fill_field.Goals as goal

pub returns-in-Is : goal.returns-in-Is
returns-in-Is c = rw c.in-Is.is (c.fill_value.ensures c.args.decimals)
