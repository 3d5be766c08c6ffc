-- PackedLaws says how a call's outcome is packed, UnpackedLaws that packing loses nothing, and CallLaws that this is so of every answer
-- that a call gives.
pub mod CallLaws
pub mod PackedLaws
pub mod UnpackedLaws
