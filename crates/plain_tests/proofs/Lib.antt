mod SlowLists
