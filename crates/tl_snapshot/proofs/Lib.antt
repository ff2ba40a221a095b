mod CopyLemmas
