pub mod MeetingLemmas
