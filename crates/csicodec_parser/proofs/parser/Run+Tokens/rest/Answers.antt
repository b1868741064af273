use Rattle.csicodec_parser.proofs.{NextLemmas.ended_at_end, NextLemmas.fresh_rest, NextLemmas.fresh_goes, NextLemmas.going_rest, NextLemmas.going_goes}
use Rattle.csicodec_parser.proofs.{Common.refl, Common.arith, Common.inl, Common.ap, Common.has_failed}
use Rattle.csicodec_parser.proofs.parser.Run+Tokens.rest.Goals as goal

pub returns-in-Fresh-clause-cut : goal.returns-in-Fresh-clause-cut
returns-in-Fresh-clause-cut c = rw (← c.self.view_is) (fresh_rest c.self.inside.stage _ _ c.in-Fresh.is c.self.invariant c.rest.ensures)

pub returns-in-Fresh-clause-ended : goal.returns-in-Fresh-clause-ended
returns-in-Fresh-clause-ended c = (λ e. cc, λ h. absurd (fresh_goes c.self.inside.stage _ c.in-Fresh.is refl c.self.invariant (rw (← c.self.view_is) at h)))

pub returns-in-Going-clause-cut : goal.returns-in-Going-clause-cut
returns-in-Going-clause-cut c = rw (← c.self.view_is) (going_rest c.self.inside.stage _ _ _ c.in-Going.is c.self.invariant (omega arith) c.rest-in-Going.ensures)

pub returns-in-Going-clause-ended : goal.returns-in-Going-clause-ended
returns-in-Going-clause-ended c = (λ e. cc, λ h. absurd (going_goes c.self.inside.stage _ _ c.in-Going.is refl c.self.invariant (omega arith) (rw (← c.self.view_is) at h)))

pub returns-in-Going-2-clause-ended : goal.returns-in-Going-2-clause-ended
returns-in-Going-2-clause-ended c = (λ e. rw (← c.self.view_is) (ended_at_end c.self.inside.stage _ _ c.in-Going-2.is c.self.invariant (omega arith)), λ h. refl)

pub returns-in-Failed-clause-ended : goal.returns-in-Failed-clause-ended
returns-in-Failed-clause-ended c = (λ e. rw (← c.self.view_is) (inl (ap has_failed c.in-Failed.is)), λ h. refl)
