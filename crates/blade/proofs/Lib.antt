mod Asking
mod Listing
