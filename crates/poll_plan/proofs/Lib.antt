mod PollLemmas
