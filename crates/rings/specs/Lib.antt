pub mod Around
pub mod Asking
pub mod Cursors
pub mod Reaches
pub mod RingCursors
pub mod RingLists
pub mod Spans
