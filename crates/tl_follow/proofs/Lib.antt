mod FollowLemmas
