mod ReadingLemmas
mod HostLemmas
