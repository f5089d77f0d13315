-- `judging::id_fits` meets its contract.
use Rattle.start_tag.specs.Limits.{no_id, own_id, made_id}
use Rattle.start_tag.proofs.judging.id_fits.Goals as goal

pub returns-in-Missing : goal.returns-in-Missing
returns-in-Missing c = no_id _ _ _ _ c.in-Missing.is

pub returns-in-Own : goal.returns-in-Own
returns-in-Own c = own_id _ _ _ _ c.in-Own.is c.piece.ensures c.room.ensures

pub returns-in-Made : goal.returns-in-Made
returns-in-Made c = made_id _ _ _ _ c.in-Made.is c.piece-in-Made.ensures c.room-in-Made.ensures
