use Rattle.explain_texts.proofs.explanation.refusal_of_code.Goals as goal

pub returns-in-Ok : goal.returns-in-Ok
returns-in-Ok c = λ text read. (c.in-Ok.model, c.in-Ok.ensures.accepted text read)

pub returns-in-Err : goal.returns-in-Err
returns-in-Err c = c.in-Err.ensures.refused
