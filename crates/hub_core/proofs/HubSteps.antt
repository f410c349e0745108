-- What a note of one connection makes of a hub.
use Rattle.hub_core.proofs.Below.{◌≡◌, ℕ, Phase, NoteValue, tell_by, HubState, entry_at, cork_at, pending_at, progress_at, progress_by, tell_at, ChangesHub}

-- a connection goes on to another phase, as a note of it says; what it holds stays
pub record Enters (conn : ℕ) (this : NoteValue) (phase : Phase) (old new : HubState) : Type 0 where
  pub entry : entry_at new conn ≡ record (entry_at old conn) { phase = phase }
  pub cork : cork_at new conn ≡ cork_at old conn
  pub pending : pending_at new conn ≡ pending_at old conn
  pub progress : progress_at new conn ≡ progress_by this (progress_at old conn)
  pub tells : tell_at new conn ≡ tell_by conn this (tell_at old conn)
  pub change : ChangesHub conn old new
