use Rattle.ss_names_scopes.proofs.scope.Scope.history_of.Goals as goal

pub returns-in-None : goal.returns-in-None
returns-in-None c = rw (c.in-Name.is, ← c.in-None.ensures, ← c.names.view_is) c.place.ensures
